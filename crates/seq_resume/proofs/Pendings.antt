-- A commit that is pending, and the index that it is made from.
use Rattle.std.proofs.Common.{◌≡◌, ap, subst}
use Rattle.std.specs.Prelude.{List, [], ◌∷◌, Option, Some, None, unwrap_or}
use Rattle.std.specs.List.{AllByRecursion}
use Rattle.commit_maker.specs.Commits.{CanBeMade, IsAuthor}
use Rattle.ident_text.specs.Idents.{IsIdentValue}
use Rattle.ident_text.specs.declared.ident.Ident.{Ident}
use Rattle.index_file.specs.Entries.{IsIndex, IsStaged}
use Rattle.index_file.specs.declared.entry.IndexEntry.{IndexEntry}
use Rattle.reading.specs.Going.{pending_making}
use Rattle.seq_base.specs.Words.{Id}
use Rattle.seq_base.specs.declared.mode.Mode.TheVariants.{Folder}
use Rattle.state_text.specs.Controls.{IfThere, IsPending}
use Rattle.state_text.specs.declared.control.Pending.{Pending}

-- what stays pending can still be made
pub stays_pending : (pending other : Pending) → IsPending pending → Some pending ≡ Some other → IsPending other
stays_pending pending other is same = subst IsPending (ap (λ (p : Option Pending). unwrap_or p pending) same) is

author_is : (author : Option Ident) → IfThere IsIdentValue author → IsAuthor author
author_is None is = tt
author_is (Some author) is = is

pub can_be_made : (head : Id) (parents : List Id) (tree : Id) (pending : Pending) → IsPending pending
    → CanBeMade (pending_making head parents tree pending)
can_be_made head parents tree pending is = record { author = author_is pending.author is.0; encoding = is.1 }

none_folder : (es : List IndexEntry) → AllByRecursion IsStaged es → AllByRecursion (λ e. e.mode ≡ Folder → ⊥) es
none_folder [] all = tt
none_folder (e ∷ es) all = (all.0.mode, none_folder es all.1)

-- no entry of an index is a folder
pub no_folder : (es : List IndexEntry) → IsIndex es → AllByRecursion (λ e. e.mode ≡ Folder → ⊥) es
no_folder es is = none_folder es is.staged
