use Rattle.std.proofs.Common.{◌≡◌, ◌⊎◌, inl, inr, List, ℕ, true, reverse, sym, ap, ◌∙◌}
use Rattle.seq_base.specs.PathMaps.{is_less}
use Rattle.seq_base.specs.declared.mode.Mode.{Mode}
use Rattle.seq_base.specs.declared.mode.Mode.TheVariants.{File, Exec, Link, Gitlink}
use Rattle.object_text.specs.declared.tree.TreeEntry.{TreeEntry}
use Rattle.object_text.specs.Trees.{key}
use Rattle.object_text.specs.ReadTrees.{last_key, is_new, IsTreeSoFar}
use Rattle.object_text.proofs.Names.{new_leaf}
use Rattle.object_text.proofs.tree_name.is_unused.Goals as goal

leaf : (earlier : List TreeEntry) (mode : Mode) (w : List ℕ) → IsTreeSoFar earlier → is_less (last_key earlier) (key mode w) ≡ true
    → (mode ≡ File) ⊎ ((mode ≡ Exec) ⊎ ((mode ≡ Link) ⊎ (mode ≡ Gitlink))) → true ≡ is_new earlier w
leaf earlier mode w good after is = new_leaf earlier w good (ap (is_less (last_key earlier)) (sym (at is)) ∙ after)
  where
    at : (mode ≡ File) ⊎ ((mode ≡ Exec) ⊎ ((mode ≡ Link) ⊎ (mode ≡ Gitlink))) → key mode w ≡ w
    at (inl e) = ap (λ (m : Mode). key m w) e
    at (inr (inl e)) = ap (λ (m : Mode). key m w) e
    at (inr (inr (inl e))) = ap (λ (m : Mode). key m w) e
    at (inr (inr (inr e))) = ap (λ (m : Mode). key m w) e

pub returns-in-File : goal.returns-in-File
returns-in-File c = leaf (reverse c.args.entries.now) c.args.mode c.args.name.now c.requires.order c.requires.after c.in-File.is
