-- The text of a chain, section by section.
use Rattle.std.proofs.Common.{◌≡◌, ℕ, ◌+◌, ◌<◌, cond, List, [], ◌∷◌, ◌++◌, length, refl, sym, ap, ◌∙◌, arith}
use Rattle.std.proofs.lemmas.Bool.{cond-false, ne_eqb}
use Rattle.std.specs.Prelude.{◌==◌}
use Rattle.message_text.specs.declared.chain.ChainItem.{ChainItem}
use Rattle.message_text.specs.Lines.{text_of}
use Rattle.message_text.specs.Paragraphs.{spaced}
use Rattle.message_text.specs.Chain.{Place, section, sections_from, places, count_line, chain_text}
use Rattle.message_text.proofs.ParagraphLemmas.{more, text_of-spaced}

-- the sections of places that are numbered from there on, each but the first behind an empty line
abbrev pub sections_text : ℕ → List Place → List ℕ
sections_text number [] = []
sections_text number (place ∷ after) = cond (number == 1) [] (10 ∷ []) ++ (text_of (section number place) ++ sections_text (number + 1) after)

later : (number : ℕ) (ps : List Place) → 1 < number → sections_text number ps ≡ more (sections_from number ps)
later number [] l = refl
later number (place ∷ after) l =
    let other : ¬ (number ≡ 1) = λ e. absurd (omega arith) in
    ap (λ gap. gap ++ (text_of (section number place) ++ sections_text (number + 1) after)) (cond-false _ _ _ (ne_eqb _ _ other))
    ∙ ap (λ t. 10 ∷ (text_of (section number place) ++ t)) (later (number + 1) after (omega arith))

all_sections : (ps : List Place) → text_of (spaced (sections_from 1 ps)) ≡ sections_text 1 ps
all_sections [] = refl
all_sections (place ∷ after) =
    text_of-spaced (section 1 place) (sections_from (1 + 1) after)
    ∙ ap (λ t. text_of (section 1 place) ++ t) (sym (later (1 + 1) after (omega arith)))

pub chain_text-from : (items : List ChainItem) → chain_text items ≡ (count_line (length items) ++ 10 ∷ []) ++ sections_text 1 (places items)
unfolding chain_text
chain_text-from items = ap (λ t. (count_line (length items) ++ 10 ∷ []) ++ t) (all_sections (places items))

pub ruleset chain_steps = chain_text-from
