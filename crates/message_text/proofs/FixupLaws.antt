-- A chain of fixups alone keeps its first message.
use Rattle.std.proofs.Common.{◌≡◌, Bool, true, false, List, [], ◌∷◌, refl, ap, ◌∙◌}
use Rattle.std.proofs.lemmas.Bool.{cond-true, cond-false, and_from}
use Rattle.std.proofs.lemmas.List.Elements.{recursion_from_All}
use Rattle.std.specs.Prelude.{map, not, filter, ◌&&◌, ◌||◌, All}
use Rattle.std.specs.List.{list_all, AllByRecursion as Each}
use Rattle.message_text.specs.declared.chain.ChainItem.{ChainItem}
use Rattle.message_text.specs.declared.chain.ChainKind.{ChainKind}
use Rattle.message_text.specs.declared.chain.ChainKind.TheVariants.{First, Squash, Fixup, Keep, KeepEdit}
use Rattle.message_text.specs.Kinds.{is_first, is_squash, is_fixup}
use Rattle.message_text.specs.Lines.{up_to}
use Rattle.message_text.specs.Chain.{Place, is_kept_before, place_of, places_from, kept_message, kept_text}
use Rattle.message_text.specs.Picked.{last_or}

fixup_is_no_squash : (kind : ChainKind) → is_fixup kind ≡ true → is_squash kind ≡ false
fixup_is_no_squash First h = refl
fixup_is_no_squash Squash h = cc
fixup_is_no_squash Fixup h = refl
fixup_is_no_squash Keep h = refl
fixup_is_no_squash KeepEdit h = refl

first_is_no_squash : (kind : ChainKind) → is_first kind ≡ true → is_squash kind ≡ false
first_is_no_squash First h = refl
first_is_no_squash Squash h = cc
first_is_no_squash Fixup h = refl
first_is_no_squash Keep h = refl
first_is_no_squash KeepEdit h = refl

first_is_no_fixup : (kind : ChainKind) → is_first kind ≡ true → is_fixup kind ≡ false
first_is_no_fixup First h = refl
first_is_no_fixup Squash h = refl
first_is_no_fixup Fixup h = cc
first_is_no_fixup Keep h = refl
first_is_no_fixup KeepEdit h = refl

abbrev AreFixups : List ChainItem → Type 0
AreFixups items = Each (λ item. is_fixup item.kind ≡ true) items

none_kept : (had_squash : Bool) (items : List ChainItem) → AreFixups items → filter (λ place. place.is_kept) (places_from had_squash items) ≡ []
unfolding is_kept_before
none_kept had_squash [] h = refl
none_kept had_squash (item ∷ after) h =
    let dropped = ap (λ b. not b && (had_squash || is_squash item.kind || list_all (λ later. is_fixup later.kind) (up_to (λ later. is_squash later.kind) after))) h.0 in
    cond-false _ _ _ dropped ∙ none_kept (had_squash || is_squash item.kind) after h.1

all_fixups : (items : List ChainItem) → AreFixups items → list_all (λ later. is_fixup later.kind) (up_to (λ later. is_squash later.kind) items) ≡ true
all_fixups [] h = refl
all_fixups (item ∷ after) h =
    ap (list_all (λ later. is_fixup later.kind)) (cond-false _ _ _ (fixup_is_no_squash item.kind h.0)) ∙ and_from _ _ h.0 (all_fixups after h.1)

first_kept : (item : ChainItem) (after : List ChainItem) → is_first item.kind ≡ true → AreFixups after
    → is_kept_before (false || is_squash item.kind) item after ≡ true
unfolding is_kept_before
first_kept item after first h =
    ap (λ b. not b && (is_squash item.kind || list_all (λ later. is_fixup later.kind) (up_to (λ later. is_squash later.kind) after))) (first_is_no_fixup item.kind first)
    ∙ ap (λ b. b || list_all (λ later. is_fixup later.kind) (up_to (λ later. is_squash later.kind) after)) (first_is_no_squash item.kind first)
    ∙ all_fixups after h

first_message : (place : Place) → is_first place.item.kind ≡ true → kept_message place ≡ place.item.message
unfolding kept_message
first_message place first = cond-true _ _ _ first

pub kept_text-fixups : (item : ChainItem) (after : List ChainItem) → is_first item.kind ≡ true → All (λ later. is_fixup later.kind ≡ true) after
    → kept_text (item ∷ after) ≡ item.message
unfolding kept_text
kept_text-fixups item after first all =
    let fixups : AreFixups after = recursion_from_All _ after all in
    let is_squashed = false || is_squash item.kind in
    let place : Place = place_of is_squashed (is_kept_before is_squashed item after) item in
    ap (λ ps. last_or [] (map kept_message ps)) (cond-true _ _ _ (first_kept item after first fixups))
    ∙ ap (λ ps. last_or (kept_message place) (map kept_message ps)) (none_kept is_squashed after fixups)
    ∙ first_message place first
