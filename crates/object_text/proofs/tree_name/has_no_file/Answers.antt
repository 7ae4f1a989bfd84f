use Rattle.std.proofs.Common.{◌≡◌, ℕ, ◌-◌, false, List, take, get_or, length, reverse, subst, sym, ap, ◌∙◌, arith}
use Rattle.std.specs.Str.{bytes_eq}
use Rattle.std.specs.List.{starts_with}
use Rattle.std.specs.Prelude.{nat_eq}
use Rattle.std.proofs.lemmas.List.{take_all}
use Rattle.object_text.specs.declared.tree.TreeEntry.{TreeEntry}
use Rattle.object_text.specs.ReadTrees.{is_new}
use Rattle.object_text.proofs.Names.{Looking, look_first, look_past, newest}
use Rattle.object_text.proofs.tree_name.has_no_file.Goals as goal

pub loop-left-init : goal.loop-left-init
loop-left-init c = record {
  within = omega arith;
  looking = subst (λ (es : List TreeEntry). Looking (is_new (reverse c.args.entries.now) c.args.folder.now) c.args.folder.now (reverse es))
      (sym (take_all (length c.args.entries.now) c.args.entries.now (omega arith))) (look_first (reverse c.args.entries.now) c.args.folder.now c.requires.order c.requires.after);
}

pub returns-then-not-starts_with : goal.returns-then-not-starts_with
returns-then-not-starts_with c =
    let total = is_new (reverse c.args.entries.now) c.args.folder.now in
    let folder = c.args.folder.now in
    let last = get_or c.args.entries.now (c.loop-left.left - 1) c.index-entries-left.result in
    let parts = newest c.args.entries.now c.loop-left.left c.index-entries-left.result (omega arith) c.loop-left.invariant.within in
    let looking = subst (λ (es : List TreeEntry). Looking total folder es) parts c.loop-left.invariant.looking in
    let other : bytes_eq last.name folder ≡ false = ap (λ (n : List ℕ). bytes_eq n folder) (sym c.as_slice-last.ensures) ∙ sym c.are_same.ensures ∙ c.if-are_same.false in
    let past : starts_with nat_eq last.name folder ≡ false = ap (λ (n : List ℕ). starts_with nat_eq n folder) (sym c.as_slice-last.ensures) ∙ sym c.starts_with.ensures.value ∙ c.if-not-starts_with.true in
    look_past total folder last (reverse (take (c.loop-left.left - 1) c.args.entries.now)) other past looking
