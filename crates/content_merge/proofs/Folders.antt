-- The folders of a path, from its end.
use Rattle.std.proofs.Common.{◌≡◌, ℕ, zero, suc, ◌-◌, ◌<◌, ◌≤◌, ◌==◌, if◌then◌else◌, List, [], ◌∷◌, ◌++◌, take, slice_index, Bool, true, cond, refl, sym, ap, ◌∙◌, append_assoc, arith}
use Rattle.seq_base.specs.Words.{Path}
use Rattle.content_merge.specs.RuleFiles.{folders_in}

pub folders_before : (n : ℕ) (path : Path) → 0 < n
    → folders_in n path ≡ (if slice_index path (n - 1) == 47 then take (n - 1) path ∷ folders_in (n - 1) path else folders_in (n - 1) path)
unfolding folders_in
folders_before zero path some = absurd (omega (arith, some))
folders_before (suc n) path some =
    let less : suc n - 1 ≡ n = omega arith in
    rw less refl

pub folders_none : (n : ℕ) (path : Path) → n ≤ 0 → folders_in n path ≡ [] ∷ []
unfolding folders_in
folders_none zero path none = refl
folders_none (suc n) path none = absurd (omega (arith, none))

-- a folder more is found
pub with_folder : (now front whole : List Path) (n : ℕ) (path : Path) → 0 < n → (slice_index path (n - 1) == 47) ≡ true
    → now ≡ front ++ take (n - 1) path ∷ [] → front ++ folders_in n path ≡ whole → now ++ folders_in (n - 1) path ≡ whole
with_folder now front whole n path some slash found so_far =
    ap (λ (xs : List Path). xs ++ folders_in (n - 1) path) found
    ∙ append_assoc front (take (n - 1) path ∷ []) (folders_in (n - 1) path)
    ∙ ap (λ (xs : List Path). front ++ xs) (sym (folders_before n path some ∙ ap (λ (b : Bool). cond b (take (n - 1) path ∷ folders_in (n - 1) path) (folders_in (n - 1) path)) slash))
    ∙ so_far
