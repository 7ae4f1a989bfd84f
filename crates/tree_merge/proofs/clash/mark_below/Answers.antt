use Rattle.std.proofs.Common.{◌≡◌, ℕ, ◌+◌, ◌<◌, ◌≤◌, Bool, true, false, ◌||◌, length, take, get_or, sym, ap, ◌∙◌, arith}
use Rattle.std.specs.List.{list_any}
use Rattle.std.proofs.lemmas.List.{get_or_default}
use Rattle.std.proofs.lemmas.List.Folds.{list_any_more}
use Rattle.tree_merge.specs.declared.plans.Planned.{Planned}
use Rattle.tree_merge.specs.Plans.{is_under, is_upper}
use Rattle.tree_merge.proofs.Clashes.{or_true, or_false, any_none, any_until, begins, marks_none, marks_kept, marks_set, marks_done, none_under_before, none_under_behind}
use Rattle.tree_merge.proofs.clash.mark_below.Goals as goal
use Rattle.tree_merge.proofs.clash.mark_below.Goals.{then-is_row_under, else-is_row_under}

pub loop-j-init : goal.loop-j-init
loop-j-init c =
    let rows = c.args.rows.now in
    let u = c.index-rows-i.result in
    let before = λ (k : ℕ) (d : Planned) (l : k < c.args.i + 1). none_under_before rows c.args.i k u d c.requires.order c.index-rows-i.is c.requires.within l in
    record {
      found = sym (any_none (is_under u) rows (c.args.i + 1) (λ k d l m. before k d l));
      lowers = λ k d l. marks_none (get_or c.args.lowers.now k false) (is_under u (get_or rows k d)) k (c.args.i + 1) (λ m. before k d m);
    }

pub loop-j-preserved : goal.loop-j-preserved
loop-j-preserved c =
    let rows = c.args.rows.now in
    let u = c.index-rows-i.result in
    let j = c.loop-j.j in
    let row = c.index-rows-j.result in
    let at_j : (d : Planned) → row ≡ get_or rows j d = λ d. c.index-rows-j.is ∙ get_or_default rows j row d c.loop-j-test.true in
    let more : list_any (is_under u) (take (j + 1) rows) ≡ list_any (is_under u) (take j rows) || is_under u row =
    list_any_more (is_under u) rows j row c.loop-j-test.true ∙ ap (λ (w : Planned). list_any (is_under u) (take j rows) || is_under u w) (sym c.index-rows-j.is) in
    elim c.if-is_row_under.branch [
      | then-is_row_under w ↦
          let hit : is_under u row ≡ true = sym c.is_row_under.ensures ∙ w.if-is_row_under.true in
          record {
            found =
                w.found-is
                ∙ sym (more ∙ ap (λ (b : Bool). list_any (is_under u) (take j rows) || b) hit ∙ sym (or_true (list_any (is_under u) (take j rows))));
            lowers =
                λ k d l. rw w.lowers-is (marks_set c.args.lowers.now c.loop-j.lowers (λ (i : ℕ). is_under u (get_or rows i d)) j (length rows) (omega (arith, c.requires.marks)) c.loop-j-test.true (ap (is_under u) (sym (at_j d)) ∙ hit) (λ i m. c.loop-j.invariant.lowers i d m) k l);
          }
      | else-is_row_under w ↦
          let miss : is_under u row ≡ false = sym c.is_row_under.ensures ∙ w.if-is_row_under.false in
          record {
            found =
                w.found-is ∙ c.loop-j.invariant.found ∙ or_false (list_any (is_under u) (take j rows))
                ∙ sym (more ∙ ap (λ (b : Bool). list_any (is_under u) (take j rows) || b) miss);
            lowers =
                λ k d l. rw w.lowers-is (marks_kept (get_or c.args.lowers.now k false) (get_or c.loop-j.lowers k false) (is_under u (get_or rows k d)) k j (c.loop-j.invariant.lowers k d l) (λ same. ap (λ (i : ℕ). is_under u (get_or rows i d)) same ∙ ap (is_under u) (sym (at_j d)) ∙ miss));
          }
    ]

pub returns-then-not-begins_with-clause-upper : goal.returns-then-not-begins_with-clause-upper
returns-then-not-begins_with-clause-upper c d =
    let rows = c.args.rows.now in
    let u = c.index-rows-i.result in
    let j = c.loop-j.j in
    let row = c.index-rows-j.result in
    let none : begins row.path u.path ≡ false = sym c.begins_with.ensures ∙ c.if-not-begins_with.true in
    let at_j : (e : Planned) → row ≡ get_or rows j e = λ e. c.index-rows-j.is ∙ get_or_default rows j row e c.loop-j-test.true in
    let behind = λ (k : ℕ) (e : Planned) (l : j ≤ k) (m : k < length rows). none_under_behind rows c.args.i j k u e c.requires.order c.index-rows-i.is (omega arith) l m (ap (λ (w : Planned). begins w.path u.path) (sym (at_j e)) ∙ none) in
    c.loop-j.invariant.found ∙ any_until (is_under u) rows j behind ∙ ap (λ (w : Planned). is_upper rows w) (c.index-rows-i.is ∙ get_or_default rows c.args.i u d c.requires.within)

pub returns-then-not-begins_with-clause-lower : goal.returns-then-not-begins_with-clause-lower
returns-then-not-begins_with-clause-lower c k d l =
    let rows = c.args.rows.now in
    let u = c.index-rows-i.result in
    let j = c.loop-j.j in
    let row = c.index-rows-j.result in
    let none : begins row.path u.path ≡ false = sym c.begins_with.ensures ∙ c.if-not-begins_with.true in
    let at_j : (e : Planned) → row ≡ get_or rows j e = λ e. c.index-rows-j.is ∙ get_or_default rows j row e c.loop-j-test.true in
    let behind = λ (m : j ≤ k). none_under_behind rows c.args.i j k u d c.requires.order c.index-rows-i.is (omega arith) m l (ap (λ (w : Planned). begins w.path u.path) (sym (at_j d)) ∙ none) in
    marks_done (get_or c.args.lowers.now k false) (get_or c.loop-j.lowers k false) (is_under u (get_or rows k d)) k j (c.loop-j.invariant.lowers k d l) behind
    ∙ ap (λ (w : Planned). get_or c.args.lowers.now k false || is_under w (get_or rows k d)) (c.index-rows-i.is ∙ get_or_default rows c.args.i u d c.requires.within)
