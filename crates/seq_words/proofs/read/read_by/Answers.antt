use Rattle.std.proofs.Common.{◌≡◌, ◌∙◌, ap, sym, subst, rules, true, [], map}
use Rattle.seq_model.specs.Faults.{fault_of}
use Rattle.seq_model.specs.Given.{any, given_behind, is_single}
use Rattle.seq_words.specs.Forms.{HoldsOf}
use Rattle.seq_words.specs.VerbWords.{rows_for}
use Rattle.seq_words.proofs.Heard.{nothing_wrong}
use Rattle.seq_words.proofs.read.read_by.Goals as goal

pub returns-in-None : goal.returns-in-None
returns-in-None c =
    let single : c.is_single.result ≡ true = search rules in
    nothing_wrong (rows_for c.args.verb) c.in_ok-m.m c.is_single.result (given_behind (rows_for c.args.verb) [] any (map (λ word. word.now) c.args.words.now))
    (λ all h. c.is_single.ensures all h ∙ ap (λ rows. is_single rows all) c.table-rows.ensures) c.in_ok-m.ensures single
    (λ all h. sym c.in-None.is ∙ c.in_ok-fault_of.ensures all (subst (λ rows. HoldsOf rows c.in_ok-m.m all) (sym c.table-rows.ensures) h)
    ∙ ap (λ rows. fault_of rows all) c.table-rows.ensures)
