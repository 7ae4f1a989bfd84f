-- What is read of a store is what it keeps.
use Rattle.std.proofs.Common.{◌≡◌, ℕ, zero, suc, ◌≤◌, ◌⊎◌, inl, inr, Bool, true, false, cond, ◌&&◌, List, ◌++◌, length, Option, Some, None, Result, Ok, Err, refl, ap, subst, ◌∙◌, arith}
use Rattle.std.specs.Prelude.{codes, nat_le, option_and_then, option_map}
use Rattle.std.specs.FinMap as map
use Rattle.std.specs.Str.{bytes_eq}
use Rattle.std.proofs.lemmas.Bool.{and_from, and_parts}
use Rattle.std.proofs.lemmas.Bool.Decides.{nat_tests}
use Rattle.std.proofs.lemmas.Slice.Eq.{bytes_eq-Decides}
use Rattle.sha1.specs.Sha1.{sha1}
use Rattle.grammar.specs.Readers.{ReadsAll}
use Rattle.seq_base.specs.World.{World}
use Rattle.seq_base.specs.Repository.{object_path}
use Rattle.object_text.specs.declared.object.Kind.{Kind}
use Rattle.object_text.specs.declared.object.Kind.TheVariants.{Blob, Tree, Commit, Tag}
use Rattle.object_text.specs.declared.object.Object.{Object}
use Rattle.object_text.specs.declared.tree.TreeEntry.{TreeEntry}
use Rattle.object_text.specs.declared.commit.Commit.{Commit as CommitFields}
use Rattle.object_text.specs.Objects.{IsObject, kind_text}
use Rattle.object_text.specs.Trees.{IsTree}
use Rattle.object_text.specs.Commits.{IsCommit, line}
use Rattle.object_text.specs.Tags.{IsTag}
use Rattle.object_text.specs.Kept.{Keeps, KeepsCommit, KeepsObject, KeepsTag, KeepsTree, LeadsToCommit, ObjectsStay}
use Rattle.object_text.specs.Store.{commit_at, commit_if, commit_of, commit_within, content_limit, entries_if_tree, entries_of, named_if_tag, named_of, object_at, object_in, object_of, tag_at, tagged_from, tree_at, value_read}
use Rattle.object_text.proofs.CommitLaws.{commit_reads}
use Rattle.object_text.proofs.Entries.{tree_reads}
use Rattle.object_text.proofs.ObjectLaws.{object_reads}
use Rattle.object_text.proofs.TagLaws.{tag_reads}

-- ---- texts

read_some : {X : Type 0} (r : Result X ℕ) (x : X) → value_read r ≡ Some x → r ≡ Ok x
read_some (Ok y) x e = cc
read_some (Err left) x e = absurd cc

-- a reader of a grammar reads exactly what is spelled
read_is : {X : Type 0} (spells : X → List ℕ → Type 0) (read : List ℕ → Result X ℕ) → ReadsAll spells read → (text : List ℕ) (x : X)
    → (value_read (read text) ≡ Some x → spells x text) × (spells x text → value_read (read text) ≡ Some x)
read_is spells read reads text x = (λ e. reads.takes text x (read_some (read text) x e), λ g. ap value_read (reads.again x text g))

pub object_texts : (text : List ℕ) (o : Object) → (object_of text ≡ Some o → IsObject o text) × (IsObject o text → object_of text ≡ Some o)
unfolding object_of
object_texts text o = read_is IsObject _ object_reads text o

pub tree_texts : (content : List ℕ) (es : List TreeEntry)
    → (entries_of content ≡ Some es → IsTree es content) × (IsTree es content → entries_of content ≡ Some es)
unfolding entries_of
tree_texts content es = read_is IsTree _ tree_reads content es

pub commit_texts : (content : List ℕ) (c : CommitFields)
    → (commit_of content ≡ Some c → IsCommit c content) × (IsCommit c content → commit_of content ≡ Some c)
unfolding commit_of
commit_texts content c = read_is IsCommit _ commit_reads content c

pub tag_texts : (content id : List ℕ) → (named_of content ≡ Some id → IsTag id content) × (IsTag id content → named_of content ≡ Some id)
unfolding named_of
tag_texts content id = (to (tagged_from content) refl, from)
  where
    to : (r : Result (List ℕ × List ℕ) ℕ) → tagged_from content ≡ r → option_map (λ (t : List ℕ × List ℕ). t.0) (value_read r) ≡ Some id
        → IsTag id content
    to (Ok (named, rest)) is e =
        let k = tag_reads.takes content named rest is in
        let t = k.1 in
        let same : named ≡ id = cc in
        subst (λ (i : List ℕ). IsTag i content) same
        (record { digits = t.digits; kind = t.kind; name = t.name; rest = rest; is_id = t.is_id; is_name = t.is_name; text_is = k.2 ∙ ap (λ (l : List ℕ). l ++ rest) t.text_is })
    to (Err left) is e = absurd cc

    from : IsTag id content → option_map (λ (t : List ℕ × List ℕ). t.0) (value_read (tagged_from content)) ≡ Some id
    from t =
        let lines : List ℕ = line (codes "object " ++ t.digits) ++ line (codes "type " ++ kind_text t.kind) ++ line (codes "tag " ++ t.name) in
        let whole : content ≡ lines ++ t.rest = t.text_is in
        let read = ap tagged_from whole ∙ tag_reads.again id lines t.rest (record { digits = t.digits; kind = t.kind; name = t.name; is_id = t.is_id; is_name = t.is_name; text_is = refl }) in
        ap (λ (r : Result (List ℕ × List ℕ) ℕ). option_map (λ (x : List ℕ × List ℕ). x.0) (value_read r)) read

-- ---- objects

guard : {X : Type 0} (t : Bool) (x y : X) → cond t (Some x) None ≡ Some y → (t ≡ true) × (x ≡ y)
guard true x y e = (refl, cc)
guard false x y e = absurd cc

then_is : {X Y : Type 0} (o : Option X) (f : X → Option Y) (y : Y) → option_and_then f o ≡ Some y → (x : X) × (o ≡ Some x) × (f x ≡ Some y)
then_is (Some x) f y e = (x, refl, e)
then_is None f y e = absurd cc

then_some : {X Y : Type 0} (o : Option X) (f : X → Option Y) (x : X) (y : Y) → o ≡ Some x → f x ≡ Some y → option_and_then f o ≡ Some y
then_some o f x y is e = ap (option_and_then f) is ∙ e

pub object_kept : (w : World) (id : List ℕ) (o : Object) → object_at w id ≡ Some o → KeepsObject w id o
unfolding object_at object_in
object_kept w id o e =
    let file = then_is (map.get w (object_path id)) (object_in id) o e in
    let text = file.0 in
    let read = then_is (object_of text) (λ (p : Object). cond (nat_le (length p.bytes) content_limit && bytes_eq (sha1 text) id) (Some p) None) o file.2 in
    let g = guard (nat_le (length read.0.bytes) content_limit && bytes_eq (sha1 text) id) read.0 o read.2 in
    let both = and_parts (nat_le (length read.0.bytes) content_limit) (bytes_eq (sha1 text) id) g.0 in
    let low : length read.0.bytes ≤ content_limit = grind (arith, nat_tests) in
    subst (λ (p : Object). KeepsObject w id p) g.1
    (record { text = text; file = file.1; spelled = (object_texts text read.0).0 read.1; within = low; hash = (bytes_eq-Decides (sha1 text) id).0 both.1 })

pub kept_object : (w : World) (id : List ℕ) (o : Object) → KeepsObject w id o → object_at w id ≡ Some o
unfolding object_at object_in
kept_object w id o kept =
    let low : nat_le (length o.bytes) content_limit ≡ true = let within = kept.within in grind (arith, nat_tests) in
    let same = (bytes_eq-Decides (sha1 kept.text) id).1 kept.hash in
    let passes = and_from (nat_le (length o.bytes) content_limit) (bytes_eq (sha1 kept.text) id) low same in
    then_some (map.get w (object_path id)) (object_in id) kept.text o kept.file
    (then_some (object_of kept.text) (λ (p : Object). cond (nat_le (length p.bytes) content_limit && bytes_eq (sha1 kept.text) id) (Some p) None) o o ((object_texts kept.text o).1 kept.spelled)
    (ap (λ (t : Bool). cond t (Some o) None) passes))

-- what an object of a kind is read as is what it spells
kept_as : {X : Type 0} (kind : Kind) (spells : X → List ℕ → Type 0) (w : World) (id content : List ℕ) (x : X)
    → object_at w id ≡ Some (record { kind = kind; bytes = content }) → spells x content → Keeps kind spells w id x
kept_as kind spells w id content x is spelled =
    record { content = content; object = object_kept w id (record { kind = kind; bytes = content }) is; spelled = spelled }

pub tree_kept : (w : World) (id : List ℕ) (es : List TreeEntry) → tree_at w id ≡ Some es → KeepsTree w id es
unfolding tree_at
tree_kept w id es e = let o = then_is (object_at w id) (λ (p : Object). entries_if_tree p.kind p.bytes) es e in at o.0.kind o.0.bytes o.1 o.2
  where
    at : (kind : Kind) (content : List ℕ) → object_at w id ≡ Some (record { kind = kind; bytes = content }) → entries_if_tree kind content ≡ Some es
        → KeepsTree w id es
    at Tree content is e = kept_as Tree IsTree w id content es is ((tree_texts content es).0 e)
    at Blob content is e = absurd cc
    at Commit content is e = absurd cc
    at Tag content is e = absurd cc

pub kept_tree : (w : World) (id : List ℕ) (es : List TreeEntry) → KeepsTree w id es → tree_at w id ≡ Some es
unfolding tree_at
kept_tree w id es kept =
    let o : Object = record { kind = Tree; bytes = kept.content } in
    then_some (object_at w id) (λ (p : Object). entries_if_tree p.kind p.bytes) o es (kept_object w id o kept.object) ((tree_texts kept.content es).1 kept.spelled)

pub tag_kept : (w : World) (id named : List ℕ) → tag_at w id ≡ Some named → KeepsTag w id named
unfolding tag_at
tag_kept w id named e = let o = then_is (object_at w id) (λ (p : Object). named_if_tag p.kind p.bytes) named e in at o.0.kind o.0.bytes o.1 o.2
  where
    at : (kind : Kind) (content : List ℕ) → object_at w id ≡ Some (record { kind = kind; bytes = content }) → named_if_tag kind content ≡ Some named
        → KeepsTag w id named
    at Tag content is e = kept_as Tag IsTag w id content named is ((tag_texts content named).0 e)
    at Blob content is e = absurd cc
    at Commit content is e = absurd cc
    at Tree content is e = absurd cc

pub kept_tag : (w : World) (id named : List ℕ) → KeepsTag w id named → tag_at w id ≡ Some named
unfolding tag_at
kept_tag w id named kept =
    let o : Object = record { kind = Tag; bytes = kept.content } in
    then_some (object_at w id) (λ (p : Object). named_if_tag p.kind p.bytes) o named (kept_object w id o kept.object) ((tag_texts kept.content named).1 kept.spelled)

-- ---- commits, also through tags

-- a commit is read, or a tag behind whose object one is
one_step : (behind : List ℕ → Option CommitFields) (w : World) (id : List ℕ) (c : CommitFields)
    → option_and_then (λ (o : Object). commit_if behind o.kind o.bytes) (object_at w id) ≡ Some c
    → KeepsCommit w id c ⊎ ((named : List ℕ) × KeepsTag w id named × (behind named ≡ Some c))
one_step behind w id c e = let o = then_is (object_at w id) (λ (p : Object). commit_if behind p.kind p.bytes) c e in at o.0.kind o.0.bytes o.1 o.2
  where
    at : (kind : Kind) (content : List ℕ) → object_at w id ≡ Some (record { kind = kind; bytes = content }) → commit_if behind kind content ≡ Some c
        → KeepsCommit w id c ⊎ ((named : List ℕ) × KeepsTag w id named × (behind named ≡ Some c))
    at Commit content is e = inl (kept_as Commit IsCommit w id content c is ((commit_texts content c).0 e))
    at Tag content is e =
        let t = then_is (named_of content) behind c e in inr (t.0, kept_as Tag IsTag w id content t.0 is ((tag_texts content t.0).0 t.1), t.2)
    at Blob content is e = absurd cc
    at Tree content is e = absurd cc

commit_step : (behind : List ℕ → Option CommitFields) (w : World) (id : List ℕ) (c : CommitFields) → KeepsCommit w id c
    → option_and_then (λ (o : Object). commit_if behind o.kind o.bytes) (object_at w id) ≡ Some c
commit_step behind w id c kept =
    let o : Object = record { kind = Commit; bytes = kept.content } in
    then_some (object_at w id) (λ (p : Object). commit_if behind p.kind p.bytes) o c (kept_object w id o kept.object) ((commit_texts kept.content c).1 kept.spelled)

tag_step : (behind : List ℕ → Option CommitFields) (w : World) (id named : List ℕ) (c : CommitFields) → KeepsTag w id named → behind named ≡ Some c
    → option_and_then (λ (o : Object). commit_if behind o.kind o.bytes) (object_at w id) ≡ Some c
tag_step behind w id named c kept e =
    let o : Object = record { kind = Tag; bytes = kept.content } in
    then_some (object_at w id) (λ (p : Object). commit_if behind p.kind p.bytes) o c (kept_object w id o kept.object) (then_some (named_of kept.content) behind named c ((tag_texts kept.content named).1 kept.spelled) e)

pub commit_kept : (n : ℕ) (w : World) (id : List ℕ) (c : CommitFields) → commit_within n w id ≡ Some c → LeadsToCommit n w id c
unfolding commit_within LeadsToCommit
commit_kept zero w id c e = elim (one_step (λ _. None) w id c e) [ inl kept ↦ kept | inr tag ↦ let none = tag.2 in absurd cc ]
commit_kept (suc n) w id c e =
    elim (one_step (commit_within n w) w id c e) [ inl kept ↦ inl kept | inr tag ↦ inr (tag.0, tag.1, commit_kept n w tag.0 c tag.2) ]

pub kept_commit : (n : ℕ) (w : World) (id : List ℕ) (c : CommitFields) → LeadsToCommit n w id c → commit_within n w id ≡ Some c
unfolding commit_within LeadsToCommit
kept_commit zero w id c leads = commit_step (λ _. None) w id c leads
kept_commit (suc n) w id c (inl kept) = commit_step (commit_within n w) w id c kept
kept_commit (suc n) w id c (inr (named, kept, leads)) = tag_step (commit_within n w) w id named c kept (kept_commit n w named c leads)

pub commit_found : (w : World) (id : List ℕ) (c : CommitFields) → commit_at w id ≡ Some c → LeadsToCommit 16 w id c
unfolding commit_at
commit_found w id c e = commit_kept 16 w id c e

pub commit_led : (w : World) (id : List ℕ) (c : CommitFields) → LeadsToCommit 16 w id c → commit_at w id ≡ Some c
unfolding commit_at
commit_led w id c leads = kept_commit 16 w id c leads

-- ---- what is read stays where the files of objects stay

pub object_stays : (old new : World) (id : List ℕ) (o : Object) → ObjectsStay old new → object_at old id ≡ Some o → object_at new id ≡ Some o
object_stays old new id o stay e =
    let k = object_kept old id o e in
    kept_object new id o (record { text = k.text; file = stay id k.text k.file; spelled = k.spelled; within = k.within; hash = k.hash })

pub tree_stays : (old new : World) (id : List ℕ) (es : List TreeEntry) → ObjectsStay old new → tree_at old id ≡ Some es → tree_at new id ≡ Some es
tree_stays old new id es stay e =
    let k = tree_kept old id es e in
    let o : Object = record { kind = Tree; bytes = k.content } in
    kept_tree new id es (record { content = k.content; object = object_kept new id o (object_stays old new id o stay (kept_object old id o k.object)); spelled = k.spelled })
