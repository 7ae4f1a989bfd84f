use Rattle.std.proofs.Common.{◌≡◌, ℕ, ◌<◌, ◌-◌, false, eqb, ltb, get_or, length, sym, ◌∙◌, ap, refl, arith}
use Rattle.std.proofs.lemmas.Bool.{ne_eqb, le-ltb}
use Rattle.object_text.proofs.Tied.{untied, ended, tied, last_is, parts_of, on, off, at_most}
use Rattle.object_text.proofs.tree_name.next_byte.Goals as goal

pub returns-then-not-tied : goal.returns-then-not-tied
returns-then-not-tied c = λ seen b s e.
    let l = last_is c.args.front.now seen b e in
    let k = l.1 in
    let u = untied c.args.last.now seen b (parts_of c.args.last.now c.args.tied seen s).1 (sym s.tied_is ∙ c.if-not-tied.true) in
    on c.args.last.now seen c.args.front.now b false c.args.tied s e (λ z. c.if-byte-eq0.false (k ∙ z)) (λ z. c.if-byte-eq47.false (k ∙ z)) (omega (arith, c.type_inv.front (length c.args.front.now - 1))) u.0 (sym u.1)

pub returns-then-at-last : goal.returns-then-at-last
returns-then-at-last c = λ seen b s e.
    let l = last_is c.args.front.now seen b e in
    let k = l.1 in
    let n = l.0 in
    let u = ended c.args.last.now seen b (sym s.tied_is ∙ c.if-not-tied.false) (omega arith) in
    on c.args.last.now seen c.args.front.now b false c.args.tied s e (λ z. c.if-byte-eq0.false (k ∙ z)) (λ z. c.if-byte-eq47.false (k ∙ z)) (omega (arith, c.type_inv.front (length c.args.front.now - 1))) u.0 (sym u.1)

pub returns-then-byte-last : goal.returns-then-byte-last
returns-then-byte-last c = λ seen b s e.
    let l = last_is c.args.front.now seen b e in
    let k = l.1 in
    let n = l.0 in
    let at = ap (λ (i : ℕ). get_or c.args.last.now i 0) n in
    let low : b < get_or c.args.last.now (length seen) 0 = omega arith in
    let u = tied c.args.last.now seen b (sym s.tied_is ∙ c.if-not-tied.false) (omega arith) in
    let ne : eqb (get_or c.args.last.now (length seen) 0) b ≡ false = ne_eqb _ _ (λ z. absurd (omega arith)) in
    let nl : ltb (get_or c.args.last.now (length seen) 0) b ≡ false = le-ltb _ _ (omega arith) in
    off c.args.last.now seen c.args.front.now b false e (u.0 ∙ rw (ne, nl) refl)

pub returns : goal.returns
returns c = λ seen b s e.
    let l = last_is c.args.front.now seen b e in
    let k = l.1 in
    let n = l.0 in
    let at = ap (λ (i : ℕ). get_or c.args.last.now i 0) n in
    let u = tied c.args.last.now seen b (sym s.tied_is ∙ c.if-not-tied.false) (omega arith) in
    let rise = at_most (get_or c.args.last.now (length seen) 0) b (omega arith) in
    let tie : eqb (get_or c.args.last.now (length c.args.front.now - 1) 0) (get_or c.args.front.now (length c.args.front.now - 1) 0) ≡ eqb (get_or c.args.last.now (length seen) 0) b = ap (λ (x : ℕ). eqb x (get_or c.args.front.now (length c.args.front.now - 1) 0)) at ∙ ap (eqb (get_or c.args.last.now (length seen) 0)) k in
    on c.args.last.now seen c.args.front.now b _ c.args.tied s e (λ z. c.if-byte-eq0.false (k ∙ z)) (λ z. c.if-byte-eq47.false (k ∙ z)) (omega (arith, c.type_inv.front (length c.args.front.now - 1))) (u.0 ∙ rise) (tie ∙ sym u.1)
