-- What the commands on index, files and objects look at first (gitrepository-layout(5)).
use Rattle.std.specs.Prelude.{Result}
use Rattle.seq_base.specs.World.{World}
use Rattle.seq_outside.specs.Halts.{◌>>=◌}
use Rattle.seq_model.specs.Checks.{is_repository}
use Rattle.seq_model.specs.Basis.{Basis, basis_at}
use Rattle.seq_model.specs.declared.denial.Denial.{Denial}

-- what they stand on, in a repository
unfoldable pub begun : World → Result Basis Denial
begun w = do
  repository ← is_repository w
  basis_at w
