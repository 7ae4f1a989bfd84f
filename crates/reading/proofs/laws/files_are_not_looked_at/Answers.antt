use Rattle.reading.proofs.Apart.{all_sides_apart, children_apart, commits_apart, indices_apart, looks_apart, maps_apart, then_apart}
use Rattle.reading.proofs.FoundApart.{founds_apart}
use Rattle.reading.proofs.RefsApart.{heads_apart}
use Rattle.reading.proofs.laws.files_are_not_looked_at.Goals as goal

pub returns : goal.returns
returns g c = record {
  reads = record {
    heads = heads_apart;
    commits = commits_apart;
    maps = maps_apart;
    indices = indices_apart;
    founds = founds_apart;
    sides = all_sides_apart;
  };
  steps = record {
    looks = λ read reads. looks_apart read reads;
    children = λ job. children_apart job;
    one_by_one = λ first next firsts nexts. then_apart first next firsts nexts;
  };
}
