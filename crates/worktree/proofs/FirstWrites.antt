-- Removals with the index behind them.
use Rattle.std.proofs.Common.{◌≡◌, List, [], ◌∷◌, ◌++◌, ap, ◌∙◌}
use Rattle.seq_outside.specs.declared.write.Write.{Write}

pub index_last : (old removed all removals : List Write) (x y : Write) → old ≡ [] → removed ≡ old ++ removals → x ≡ y → all ≡ removed ++ x ∷ []
    → all ≡ removals ++ y ∷ []
index_last old removed all removals x y none gone same pushed =
    pushed
    ∙ ap (λ (ws : List Write). ws ++ x ∷ []) (gone ∙ ap (λ (ws : List Write). ws ++ removals) none)
    ∙ ap (λ (w : Write). removals ++ w ∷ []) same
