use Rattle.std.proofs.Common.{◌≡◌, ◌<◌, ◌↔◌, length, get_or, false, true, sym, subst, List, Bool, arith, ap, ◌∙◌}
use Rattle.std.proofs.lemmas.List.{get_or_read}
use Rattle.std.proofs.lemmas.Grind.{common_steps}
use Rattle.attr_rules.specs.Matches.{Fits}
use Rattle.attr_rules.specs.Coded.{piece_of}
use Rattle.attr_rules.specs.Reach.{marks_behind}
use Rattle.attr_rules.proofs.Fitting.{StillFits, still_fits, fits_no_more, still_fits_next, fits_at_end}
use Rattle.attr_rules.proofs.matching.fits.Goals as goal

pub loop-rest-init : goal.loop-rest-init
loop-rest-init c =
    subst (λ (marks : List Bool). StillFits true c.args.letters.now marks c.args.text.now c.args.letters.now) (sym c.in_ok-marks.ensures)
    (still_fits c.args.letters.now c.args.text.now)

pub returns-in_default : goal.returns-in_default
returns-in_default c =
    let some : 0 < length c.loop-rest.rest.now = grind (arith, common_steps) in (
      λ h. absurd (cc),
      λ f. absurd (fits_no_more c.loop-rest.begins c.loop-rest.rest.now c.loop-rest.marks.items c.args.text.now c.args.letters.now c.loop-rest.invariant some (sym c.in_default.ensures.same) f),
    )

pub loop-rest-preserved : goal.loop-rest-preserved
loop-rest-preserved c =
    still_fits_next (piece_of c.in-Some.piece) c.in-Some.behind.now c.loop-rest.begins c.loop-rest.rest.now c.loop-rest.marks.items c.args.text.now c.args.letters.now _ _
    c.in-Some.ensures.same c.ends_part-begins.ensures
    (c.in_ok-marks-2.ensures ∙ ap (λ (marks : List Bool). marks_behind (piece_of c.in-Some.piece) marks c.args.text.now) c.as_slice.ensures.value) c.loop-rest.invariant

pub returns : goal.returns
returns c =
    let at_end : length c.loop-rest.rest.now ≡ 0 = grind (arith, common_steps) in
    let last : c.index.result.now ≡ get_or c.loop-rest.marks.items (length c.args.text.now) false = get_or_read c.loop-rest.marks.items _ _ (omega (arith, c.loop-rest.invariant.places)) c.index.ensures false in
    subst (λ (r : Bool). (r ≡ true) ↔ Fits c.args.letters.now c.args.text.now) (sym last)
    (fits_at_end c.loop-rest.begins c.loop-rest.rest.now c.loop-rest.marks.items c.args.text.now c.args.letters.now c.loop-rest.invariant at_end)
