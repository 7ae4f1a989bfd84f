-- Names of packed refs, as words up to the line feed.
use Rattle.std.proofs.Common.{◌≡◌, ℕ, Bool, true, false, cond, nat_lt, codes, List, [], ◌∷◌, ◌++◌, Option, Some, None, inl, inr, refl, sym, ap, subst, ◌∙◌, append_assoc, arith}
use Rattle.std.specs.Prelude.{is_some}
use Rattle.std.specs.List.{list_all}
use Rattle.std.specs.Str.{bytes_eq}
use Rattle.std.proofs.lemmas.Bool.{and_parts, cond-true, or_cases, ltb-true}
use Rattle.std.proofs.lemmas.List.{append-nil}
use Rattle.std.proofs.lemmas.List.Folds.{list_all-append}
use Rattle.std.proofs.lemmas.Slice.Eq.{bytes_eq-Decides}
use Rattle.grammar.specs.Grammar.{AllBytes}
use Rattle.grammar.specs.Readers.{IsWord}
use Rattle.seq_base.specs.declared.ref_front.RefFront.{RefFront}
use Rattle.seq_base.specs.RefNameFronts.{behind, goes_on, next_part, next_text}
use Rattle.seq_base.specs.RefNames.{IsRefName, is_below_refs, is_ref_byte, is_ref_name}
use Rattle.seq_base.proofs.RefFronts.{Stands}
use Rattle.seq_base.proofs.RefFrontLaws.{at_start, name_goes_on, some_name, steps}
use Rattle.seq_base.proofs.RefPaths.{below_refs}
use Rattle.ref_text.specs.ReadPacked.{at_name, behind_all, may_name, name_value, then_front}

some_front : (o : Option RefFront) (f : RefFront → Option RefFront) (t : RefFront) → then_front o f ≡ Some t
    → (s : RefFront) × (o ≡ Some s) × (f s ≡ Some t)
some_front None f t e = absurd cc
some_front (Some s) f t e = (s, refl, e)

is_one : (o : Option RefFront) → is_some o ≡ true → (s : RefFront) × (o ≡ Some s)
is_one None e = absurd cc
is_one (Some s) e = (s, refl)

-- where one stands behind bytes of a name
stands_all : (s t : RefFront) (seen bytes : List ℕ) → behind_all s seen bytes ≡ Some t → Stands s seen → Stands t (seen ++ bytes)
unfolding behind_all
stands_all s t seen [] e here =
    let same : s ≡ t = cc in
    subst (λ (u : RefFront). Stands u (seen ++ [])) same (subst (Stands s) (sym (append-nil seen)) here)
stands_all s t seen (b ∷ bytes) e here =
    let k = some_front (behind s (seen ++ b ∷ [])) (λ u. behind_all u (seen ++ b ∷ []) bytes) t e in
    subst (Stands t) (append_assoc seen (b ∷ []) bytes) (stands_all k.0 t (seen ++ b ∷ []) bytes k.2 (steps s k.0 seen b k.1 here))

-- a name goes on with each of its bytes
goes_all : (s : RefFront) (seen bytes rest : List ℕ) → Stands s seen → IsRefName (seen ++ (bytes ++ rest)) → is_some (behind_all s seen bytes) ≡ true
unfolding behind_all
goes_all s seen [] rest here is = refl
goes_all s seen (b ∷ bytes) rest here is =
    let on : goes_on s (seen ++ b ∷ []) ≡ true = name_goes_on s seen b (bytes ++ rest) here is in
    let t : RefFront = record { part = next_part s (seen ++ b ∷ []); text = next_text s (seen ++ b ∷ []) } in
    let e : behind s (seen ++ b ∷ []) ≡ Some t = cond-true (goes_on s (seen ++ b ∷ [])) (Some t) None on in
    let more = goes_all t (seen ++ b ∷ []) bytes rest (steps s t seen b e here) (subst IsRefName (sym (append_assoc seen (b ∷ []) (bytes ++ rest))) is) in
    ap (λ (o : Option RefFront). is_some (then_front o (λ u. behind_all u (seen ++ b ∷ []) bytes))) e ∙ more

-- one byte more
pub behind_more : (s : RefFront) (seen bytes : List ℕ) (b : ℕ)
    → behind_all s seen (bytes ++ b ∷ []) ≡ then_front (behind_all s seen bytes) (λ t. behind t (seen ++ (bytes ++ b ∷ [])))
unfolding behind_all
behind_more s seen [] b = at (behind s (seen ++ b ∷ []))
  where
    at : (o : Option RefFront) → then_front o (λ t. Some t) ≡ o
    at None = refl
    at (Some t) = refl
behind_more s seen (c ∷ bytes) b = at (behind s (seen ++ c ∷ [])) (λ t. behind_more t (seen ++ c ∷ []) bytes b)
  where
    at : (o : Option RefFront)
        → ((t : RefFront) → behind_all t (seen ++ c ∷ []) (bytes ++ b ∷ []) ≡ then_front (behind_all t (seen ++ c ∷ []) bytes) (λ u. behind u ((seen ++ c ∷ []) ++ (bytes ++ b ∷ []))))
        → then_front o (λ t. behind_all t (seen ++ c ∷ []) (bytes ++ b ∷ [])) ≡ then_front (then_front o (λ t. behind_all t (seen ++ c ∷ []) bytes)) (λ u. behind u (seen ++ (c ∷ bytes ++ b ∷ [])))
    at None later = refl
    at (Some t) later =
        later t
        ∙ ap (λ (l : List ℕ). then_front (behind_all t (seen ++ c ∷ []) bytes) (λ u. behind u l)) (append_assoc seen (c ∷ []) (bytes ++ b ∷ []))

pub front_behind : (s : RefFront) (front seen : List ℕ) (b : ℕ) → behind_all at_name [] seen ≡ Some s → front ≡ seen ++ b ∷ []
    → behind_all at_name [] front ≡ behind s front
front_behind s front seen b e is =
    ap (behind_all at_name []) is ∙ behind_more at_name [] seen b ∙ ap (λ (o : Option RefFront). then_front o (λ t. behind t (seen ++ b ∷ []))) e ∙ ap (behind s) (sym is)

-- ---- a word

start : Stands at_name []
start = at_start at_name refl refl

name_is : (w x : List ℕ) → name_value w ≡ Some x → IsRefName w × (w ≡ x)
name_is w x v = at (is_ref_name w) refl v
  where
    at : (t : Bool) → is_ref_name w ≡ t → cond t (Some w) None ≡ Some x → IsRefName w × (w ≡ x)
    at true is v = (is, cc)
    at false is v = absurd cc

pub name_to : (w x : List ℕ) → name_value w ≡ Some x → IsRefName x × (w ≡ x)
name_to w x v = let k = name_is w x v in (subst IsRefName k.1 k.0, k.1)

pub name_from : (x : List ℕ) → IsRefName x → name_value x ≡ Some x
name_from x is = cond-true (is_ref_name x) (Some x) None is

-- no name holds a control byte
name_bytes : (name : List ℕ) → IsRefName name → list_all is_ref_byte name ≡ true
name_bytes name is = elim (or_cases (bytes_eq name (codes "HEAD")) (is_below_refs name) is) [
  | inl head ↦ ap (list_all is_ref_byte) ((bytes_eq-Decides name (codes "HEAD")).0 head)
  | inr refs ↦ (below_refs name refs).bytes
]

no_feed : (front back : List ℕ) (b : ℕ) → IsRefName (front ++ b ∷ back) → b ≡ 10 → ⊥
no_feed front back b is e =
    let all = and_parts (list_all is_ref_byte front) (list_all is_ref_byte (b ∷ back)) (sym (list_all-append is_ref_byte front (b ∷ back)) ∙ name_bytes (front ++ b ∷ back) is) in
    let one = (and_parts (is_ref_byte b) (list_all is_ref_byte back) all.1).0 in
    let ten : is_ref_byte 10 ≡ true = ap is_ref_byte (sym e) ∙ one in
    cc

fit : (bytes : List ℕ) → list_all (λ b. nat_lt b 256) bytes ≡ true → AllBytes bytes
fit [] h = tt
fit (b ∷ bytes) h = let k = and_parts (nat_lt b 256) (list_all (λ b. nat_lt b 256) bytes) h in (ltb-true b 256 k.0, fit bytes k.1)

pub is_name : IsWord may_name name_value 10
unfolding behind_all
is_name = record {
  stop_fits = omega arith;
  starts = refl;
  fronts = λ front back b x v.
      let is = (name_is (front ++ b ∷ back) x v).0 in
      (goes_all at_name [] (front ++ b ∷ []) back start (subst IsRefName (sym (append_assoc front (b ∷ []) back)) is), no_feed front back b is);
  ends = λ front m.
      let k = is_one (behind_all at_name [] front) m in
      let n = some_name k.0 front (stands_all at_name k.0 [] front k.1 start) in
      (front ++ n.rest, n.rest, fit n.rest n.fits, name_from (front ++ n.rest) n.is_name);
}
