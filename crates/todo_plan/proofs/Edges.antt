-- The last byte of a text that is no blank and no CR is where it ends without these.
use Rattle.std.proofs.Common.{◌≡◌, ℕ, ◌+◌, Bool, true, false, List, [], ◌∷◌, take, refl}
use Rattle.std.specs.Prelude.{Some, None, ◌||◌, ◌==◌}
use Rattle.memchr.specs.Find.{IsLastByte}
use Rattle.bstr.specs.Bytes.{is_in, not_in}
use Rattle.message_text.specs.Lines.{without_end}
use Rattle.message_text.proofs.BodyLemmas.{last_outside, none_outside}
use Rattle.todo_plan.specs.Commits.{is_edge}

three : (a b c : Bool) → (a || (b || (c || false))) ≡ ((a || b) || c)
three true b c = refl
three false true c = refl
three false false true = refl
three false false false = refl

in_edges : (b : ℕ) → is_in (32 ∷ 9 ∷ 13 ∷ []) b ≡ is_edge b
unfolding is_in
in_edges b = three (b == 32) (b == 9) (b == 13)

pub no_text : (text : List ℕ) → IsLastByte (not_in (32 ∷ 9 ∷ 13 ∷ [])) text None → without_end is_edge text ≡ []
no_text text h = none_outside is_edge _ in_edges text h

pub text_end : (text : List ℕ) (last : ℕ) → IsLastByte (not_in (32 ∷ 9 ∷ 13 ∷ [])) text (Some last) → without_end is_edge text ≡ take (last + 1) text
text_end text last h = last_outside is_edge _ in_edges text last h

pub ruleset edge_steps = (no_text, text_end)
