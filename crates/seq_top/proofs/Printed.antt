-- The text that is printed of what was judged.
use Rattle.std.proofs.Common.{◌≡◌, Bool, ◌++◌, length, refl, sym, ap, ◌∙◌, arith}
use Rattle.std.proofs.lemmas.List.{take_all}
use Rattle.seq_base.specs.Words.{Text}
use Rattle.seq_model.specs.declared.outcome.Outcome.{Outcome}
use Rattle.seq_model.specs.declared.outcome.Outcome.TheVariants.{Done, Stopped, Usage, Refused, StoreFault, ChildFault, OutputFault, Limit, Memory}
use Rattle.seq_top.specs.Answers.{AddsPrefix, IsTold, Prints, text_of}

pub told_by : (outcome : Outcome) (here there : Bool) → here ≡ there → IsTold outcome here there
told_by (Done head) here there is = is
told_by (Stopped kind paths) here there is = tt
told_by (Usage fault) here there is = tt
told_by (Refused refusal) here there is = tt
told_by StoreFault here there is = tt
told_by ChildFault here there is = tt
told_by OutputFault here there is = tt
told_by (Limit what number) here there is = tt
told_by Memory here there is = tt

pub told_text : (here there : Bool) (outcome : Outcome) (own : Text) → IsTold outcome here there
    → text_of here outcome own ≡ text_of there outcome own
told_text here there (Done head) own is = rw is refl
told_text here there (Stopped kind paths) own is = refl
told_text here there (Usage fault) own is = refl
told_text here there (Refused refusal) own is = refl
told_text here there StoreFault own is = refl
told_text here there ChildFault own is = refl
told_text here there OutputFault own is = refl
told_text here there (Limit what number) own is = refl
told_text here there Memory own is = refl

-- all of the text is a prefix of it
all_added : (text old new : Text) → new ≡ old ++ text → AddsPrefix old text new
all_added text old new is = (length text, is ∙ ap (λ (t : Text). old ++ t) (sym (take_all (length text) text (omega arith))))

pub prints_all : (outcome : Outcome) (text old new : Text) → new ≡ old ++ text → Prints outcome text old new
prints_all (Done head) text old new is = is
prints_all (Stopped kind paths) text old new is = is
prints_all (Usage fault) text old new is = is
prints_all (Refused refusal) text old new is = is
prints_all StoreFault text old new is = is
prints_all ChildFault text old new is = is
prints_all OutputFault text old new is = all_added text old new is
prints_all (Limit what number) text old new is = is
prints_all Memory text old new is = all_added text old new is
