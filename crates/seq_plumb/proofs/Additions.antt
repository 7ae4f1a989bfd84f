-- Files that are added, one after another.
use Rattle.std.proofs.Common.{◌≡◌, ◌-◌, ◌<◌, List, ◌∷◌, length, take, drop, get_or, Ok, refl, sym, ap, ◌∙◌}
use Rattle.seq_base.specs.Words.{Path}
use Rattle.seq_base.specs.World.{World}
use Rattle.seq_outside.proofs.Firsts.{first_and_others}
use Rattle.index_file.specs.declared.entry.IndexEntry.{IndexEntry}
use Rattle.seq_plumb.specs.Adding.{file_added, files_added}

added_on : (index more : List IndexEntry) (now next : World) (path : Path) (paths : List Path) → file_added index path now ≡ (Ok more, next)
    → files_added index (path ∷ paths) now ≡ files_added more paths next
unfolding files_added
added_on index more now next path paths is = rw is refl

-- what is left to add comes to what there was
pub added_more : (first_index index more : List IndexEntry) (start now next : World) (all rest : List Path) (path : Path)
    → files_added index rest now ≡ files_added first_index all start → 0 < length rest → path ≡ get_or rest 0 path
    → file_added index path now ≡ (Ok more, next)
    → files_added more (take (length rest - 1) (drop 1 rest)) next ≡ files_added first_index all start
added_more first_index index more start now next all rest path same some first is =
    sym (added_on index more now next path (take (length rest - 1) (drop 1 rest)) is) ∙ ap (λ (paths : List Path). files_added index paths now) (sym (first_and_others rest path some first)) ∙ same
