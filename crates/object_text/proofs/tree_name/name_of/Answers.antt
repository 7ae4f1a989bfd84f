use Rattle.std.proofs.Common.{◌≡◌, ℕ, Bool, cond, List, reverse, Some, None, Result, Ok, sym, ◌∙◌, ap, refl}
use Rattle.grammar.specs.Readers.{◌>>=◌, ended, span_at}
use Rattle.seq_base.specs.declared.mode.Mode.{Mode}
use Rattle.object_text.specs.declared.tree.TreeEntry.{TreeEntry}
use Rattle.object_text.specs.ReadTrees.{last_key, may_follow, may_name, name_value, name_from}
use Rattle.object_text.proofs.tree_name.name_of.Goals as goal

-- what the test of a name tells
told : (earlier : List TreeEntry) (last : List ℕ) (mode : Mode) (bytes w rest : List ℕ) (t : Bool) → last ≡ last_key earlier
    → span_at (may_name last) 0 bytes ≡ Ok (w, rest)
    → t ≡ may_follow earlier mode w → name_from earlier mode bytes ≡ ended (cond t (Some w) None) rest
unfolding name_from
told earlier last mode bytes w rest t is read e =
    let span : span_at (may_name (last_key earlier)) 0 bytes ≡ Ok (w, rest) = ap (λ (b : List ℕ). span_at (may_name b) 0 bytes) (sym is) ∙ read in
    ap (λ (r : Result (List ℕ × List ℕ) ℕ). r >>= λ x. ended (name_value earlier mode x.0) x.1) span ∙ ap (λ (b : Bool). ended (cond b (Some w) None) rest) (sym e)

pub returns-then-not-branch : goal.returns-then-not-branch
returns-then-not-branch c =
    let t = told (reverse c.args.entries.now) c.as_slice-last.result.now c.args.mode c.args.bytes.now c.in_ok-name.name.now c.in_ok-name.rest.now c.in_ok-may_follow.field-0 (c.as_slice-last.ensures.value ∙ c.in_ok-last_key.ensures) c.in_ok-name.ensures.read c.in_ok-may_follow.ensures in
    let off = c.if-not-branch.true in
    t ∙ rw off refl

pub returns : goal.returns
returns c =
    let t = told (reverse c.args.entries.now) c.as_slice-last.result.now c.args.mode c.args.bytes.now c.in_ok-name.name.now c.in_ok-name.rest.now c.in_ok-may_follow.field-0 (c.as_slice-last.ensures.value ∙ c.in_ok-last_key.ensures) c.in_ok-name.ensures.read c.in_ok-may_follow.ensures in
    let on = c.if-not-branch.false in
    t ∙ rw on (ap (λ (n : List ℕ). Ok (n, c.in_ok-name.rest.now)) (sym c.in_ok-from_slice.ensures.items))
