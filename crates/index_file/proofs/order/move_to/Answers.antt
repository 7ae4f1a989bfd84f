use Rattle.std.proofs.Common.{◌≡◌, ℕ, ◌+◌, ◌-◌, ◌≤◌, Bool, false, cond, List, ◌++◌, length, take, replicate, Result, Ok, Err, refl, ap, ◌∙◌, arith}
use Rattle.std.specs.Prelude.{is_ok, OnOk}
use Rattle.std.specs.declared.alloc.AllocError.{AllocError}
use Rattle.std.proofs.lemmas.List.{take_all, length-take}
use Rattle.index_file.specs.Fronts.{common}
use Rattle.index_file.proofs.FrontLaws.{common_is, common_le}
use Rattle.index_file.proofs.order.move_to.Goals as goal

pub overflow_add-common_len : goal.overflow_add-common_len
overflow_add-common_len c =
    let le : c.common_len.result ≤ length c.args.last.now = omega (arith, c.common_len.ensures, common_is c.args.last.now c.args.path.now, (common_le c.args.last.now c.args.path.now).0) in
    omega (arith, c.args.files.now.ok.0, c.args.files.now.small)

resized : (r : Result (Unit {0}) AllocError) (new mid old : List Bool) (len m k n : ℕ) → mid ≡ take (m + 1) old → len ≡ length mid → m ≡ k → k ≤ n
    → k + 1 ≤ length old
    → new ≡ cond (is_ok r) (take (n + 1) mid ++ replicate (n + 1 - len) false) mid → OnOk r (new ≡ take (k + 1) old ++ replicate (n - k) false)
resized (Err f) new mid old len m k n p q e le long h = tt
resized (Ok x) new mid old len m k n p q e le long h =
    let short : length mid ≡ k + 1 = ap length p ∙ length-take (m + 1) old ∙ omega arith in
    let left : n + 1 - len ≡ n - k = omega arith in
    h ∙ rw (take_all (n + 1) mid (omega arith), left, p, e) refl

pub returns-clause-marks : goal.returns-clause-marks
returns-clause-marks c =
    let common_le' = common_le c.args.last.now c.args.path.now in
    resized c.resize.result c.resize.new.self.items c.truncate.new.self.items c.args.files.now.items c.truncate.new.self.len c.common_len.result (common c.args.last.now c.args.path.now) (length c.args.path.now)
    c.truncate.ensures.items c.truncate.new.self.ok.0 (c.common_len.ensures ∙ common_is c.args.last.now c.args.path.now) common_le'.1 (omega (arith, common_le'.0, c.requires)) c.resize.ensures.items
