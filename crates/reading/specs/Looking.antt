-- What a start looks at again before it writes: HEAD, index and files, where a child has run, and what is in the way (githooks(5), "pre-rebase").
use Rattle.std.specs.Prelude.{Bool, true, false, not, ◌&&◌, List, Option, Some, None, Result, Ok}
use Rattle.std.specs.Str.{bytes_eq}
use Rattle.index_file.specs.declared.entry.IndexEntry.{IndexEntry}
use Rattle.path_trees.specs.Named.{commit_map}
use Rattle.ref_store.specs.declared.fault.RefFault.{RefFault}
use Rattle.ref_text.specs.declared.head.Head.TheVariants.{Branch, Detached}
use Rattle.ref_text.specs.declared.head.Head.{Head}
use Rattle.ref_store.specs.Values.{head_at, value_at}
use Rattle.ref_text.specs.Refs.{head_name}
use Rattle.seq_base.specs.PathMaps.{Entries}
use Rattle.seq_base.specs.Words.{Id, Name}
use Rattle.seq_base.specs.World.{World}
use Rattle.seq_model.specs.Checks.{born}
use Rattle.seq_model.specs.Basis.{index_named, unmerged}
use Rattle.seq_model.specs.Pick.{clean_map}
use Rattle.seq_model.specs.Refusing.{denied_file, refuse_found, refuse_if}
use Rattle.seq_model.specs.declared.denial.Denial.{Denial}
use Rattle.seq_model.specs.declared.denial.Denial.TheVariants.{Refused}
use Rattle.seq_model.specs.declared.place.Place.{Place}
use Rattle.seq_model.specs.declared.refusal.Refusal.TheVariants.{BadHead, HeadMoved, Unmerged}
use Rattle.seq_outside.specs.Halts.{◌>>=◌, for_reason}
use Rattle.seq_outside.specs.declared.lack.Lack.{Lack}
use Rattle.state_text.specs.declared.control.Control.{Control}
use Rattle.worktree.specs.Writes.{clear_writes}
use Rattle.line_steps.specs.Finding.{may_stand}

-- ---- where a child has run

-- whatever is at fault, HEAD is bad
abbrev pub head_denied : RefFault → Denial
head_denied fault = Refused BadHead

-- HEAD, and the commit that it is at
unfoldable pub place_again : World → Result Place Denial
place_again w = do
  head ← for_reason head_denied (head_at w)
  tip ← for_reason head_denied (value_at w head_name)
  Ok (record { head = head; tip = tip })

-- HEAD is on the branch that is rebased, or detached where none is
abbrev pub is_on : Option Name → Head → Bool
is_on None (Detached id) = true
is_on None (Branch name) = false
is_on (Some name) (Detached id) = false
is_on (Some name) (Branch other) = bytes_eq name other

-- HEAD is where it was
abbrev pub is_unmoved : Control → Id → Head → Bool
is_unmoved k head on = bytes_eq head k.orig && is_on k.head_name on

unfoldable pub head_unmoved : Control → World → Result (Unit {0}) Denial
head_unmoved k w = do
  place ← place_again w
  head ← born place.tip
  refuse_if (not (is_unmoved k head place.head)) (HeadMoved (Some head))

-- index and files are those of its commit
unfoldable pub index_unchanged : Control → List IndexEntry → World → Result (Unit {0}) Denial
index_unchanged k index w = do
  _ ← refuse_found (unmerged index) Unmerged
  _ ← clean_map w k.orig index
  Ok tt

unfoldable pub files_unchanged : Control → World → Result (Unit {0}) Denial
files_unchanged k w = do
  index ← index_named w
  index_unchanged k index w

-- HEAD, index and files are as they were
unfoldable pub unchanged : Control → World → Result (Unit {0}) Denial
unchanged k w = do
  _ ← head_unmoved k w
  files_unchanged k w

-- ---- the switch to onto

-- no untracked file is in its way, and the blobs that it writes can be read
unfoldable pub may_switch : List IndexEntry → Entries → World → Result (Unit {0}) Lack
may_switch index m w = do
  _ ← may_stand index m w
  _ ← clear_writes w index m
  Ok tt

-- nothing is in the way of a start
unfoldable pub may_begin : Control → World → Result (Unit {0}) Denial
may_begin k w = do
  index ← index_named w
  onto ← for_reason denied_file (commit_map w k.onto)
  for_reason denied_file (may_switch index onto w)
