use Rattle.std.proofs.Common.{ℕ, List, [], ap, ◌∙◌}
use Rattle.std.specs.Prelude.{Option, unwrap_or}
use Rattle.commit_maker.proofs.messages.text_at.Goals as goal

pub returns-clause-found : goal.returns-clause-found
returns-clause-found g c told = c.text_or_empty.ensures ∙ ap (λ (text : Option (List ℕ)). unwrap_or text []) (c.in_ok-found.ensures.found told)
