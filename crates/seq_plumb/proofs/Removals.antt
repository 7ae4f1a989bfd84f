-- Files that are removed, one after another.
use Rattle.std.proofs.Common.{◌≡◌, ◌-◌, ◌<◌, List, ◌∷◌, length, take, drop, get_or, Ok, refl, sym, ap, ◌∙◌}
use Rattle.seq_base.specs.Words.{Path}
use Rattle.seq_base.specs.World.{World}
use Rattle.seq_outside.proofs.Firsts.{first_and_others}
use Rattle.index_file.specs.declared.entry.IndexEntry.{IndexEntry}
use Rattle.seq_plumb.specs.Removing.{file_removed, files_removed}

removed_on : (index : List IndexEntry) (now next : World) (path : Path) (paths : List Path) → file_removed index path now ≡ (Ok tt, next)
    → files_removed index (path ∷ paths) now ≡ files_removed index paths next
unfolding files_removed
removed_on index now next path paths is = rw is refl

-- what is left to remove comes to what there was
pub removed_more : (index : List IndexEntry) (start now next : World) (all rest : List Path) (path : Path)
    → files_removed index rest now ≡ files_removed index all start → 0 < length rest → path ≡ get_or rest 0 path
    → file_removed index path now ≡ (Ok tt, next)
    → files_removed index (take (length rest - 1) (drop 1 rest)) next ≡ files_removed index all start
removed_more index start now next all rest path same some first is =
    sym (removed_on index now next path (take (length rest - 1) (drop 1 rest)) is) ∙ ap (λ (paths : List Path). files_removed index paths now) (sym (first_and_others rest path some first)) ∙ same
