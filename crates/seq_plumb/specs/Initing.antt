-- A repository that is made where none is (git-init(1)).
use Rattle.std.specs.Prelude.{is_some, [], ◌∷◌, ◌++◌, codes, Option, None, Result, Ok, Err}
use Rattle.std.specs.FinMap as file
use Rattle.ref_store.specs.Values.{value_at}
use Rattle.ref_store.specs.declared.fault.RefFault.{RefFault}
use Rattle.ref_text.specs.Refs.{head_name}
use Rattle.seq_base.specs.Words.{Id, Text}
use Rattle.seq_base.specs.World.{World}
use Rattle.seq_outside.specs.Turns.{Turn, ◌>>=◌, looks, put_in, saying}
use Rattle.seq_model.specs.Refusing.{denied_put, refuse_if}
use Rattle.seq_model.specs.declared.denial.Denial.{Denial}
use Rattle.seq_model.specs.declared.refusal.Refusal.TheVariants.{AlreadyARepository}

-- HEAD on the branch `master`
abbrev pub first_head : Text
first_head = codes "ref: refs/heads/master" ++ 10 ∷ []

abbrev pub first_config : Text
first_config = codes "[core]" ++ 10 ∷ 9 ∷ codes "repositoryformatversion = 0" ++ 10 ∷ []

-- there is no repository yet
unfoldable pub is_new : World → Result (Unit {0}) Denial
is_new w = refuse_if (is_some (file.get w (codes ".git/HEAD"))) AlreadyARepository

-- the value of a ref, and none where it cannot be read
abbrev pub or_unborn : Result (Option Id) RefFault → Option Id
or_unborn (Ok value) = value
or_unborn (Err fault) = None

-- the commit that HEAD is at: none where its branch has none, or where that cannot be read
unfoldable pub tip_of : World → Result (Option Id) Denial
tip_of w = Ok (or_unborn (value_at w head_name))

-- HEAD and the configuration
unfoldable pub first_files : Turn Denial (Unit {0})
first_files = do
  head ← saying denied_put (put_in (codes ".git/HEAD") first_head)
  saying denied_put (put_in (codes ".git/config") first_config)

-- a new repository; answers the commit that HEAD is at
unfoldable pub inited : Turn Denial (Option Id)
inited = do
  new ← looks is_new
  files ← first_files
  looks tip_of
