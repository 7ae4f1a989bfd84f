-- A word up to the byte that ends it.
use Rattle.std.proofs.Common.{◌≡◌, ℕ, suc, ◌+◌, Bool, true, false, cond, eqb, List, [], ◌∷◌, ◌++◌, length, Option, Some, None, Result, Ok, Err, refl, sym, ap, subst, ◌∙◌, append_assoc, arith, ◌⊎◌, inl, inr}
use Rattle.std.proofs.lemmas.List.{append-nil, append_cancel_left}
use Rattle.std.proofs.lemmas.Bool.{eqb-true, eqb-false, eq-eqb, ne_eqb}
use Rattle.grammar.specs.Readers.{◌>>=◌, NoneGoesOn, Reads, HasText, Word, ended, word_at, span_at, valued_at, IsWord}
use Rattle.grammar.proofs.Laws.{AllBytes-append, ok_is, cuts}

ended_ok : {X : Type 0} (o : Option X) (bytes : List ℕ) (x : X) (rest : List ℕ) → ended o bytes ≡ Ok (x, rest) → (o ≡ Some x) × (bytes ≡ rest)
ended_ok {X} (Some y) bytes x rest e =
    let same : (y, bytes) ≡ (x, rest) = ok_is (y, bytes) (x, rest) e in
    (ap (λ (p : X × List ℕ). Some p.0) same, ap (λ (p : X × List ℕ). p.1) same)
ended_ok None bytes x rest e = absurd cc

ended_err : {X : Type 0} (o : Option X) (bytes : List ℕ) (left : ℕ) → ended o bytes ≡ Err left → (o ≡ None) × (suc (length bytes) ≡ left)
ended_err (Some y) bytes left e = absurd cc
ended_err None bytes left e = let k : length bytes + 1 ≡ left = cc in (refl, omega arith)

takes_step : {X : Type 0} (may : List ℕ → Bool) (value : List ℕ → Option X) (stop : ℕ) (seen : List ℕ) (b : ℕ) (bytes : List ℕ) (x : X) (rest : List ℕ) (t m : Bool)
    → eqb b stop ≡ t
    → (word_at may value stop (seen ++ b ∷ []) bytes ≡ Ok (x, rest) → (w : List ℕ) × (value ((seen ++ b ∷ []) ++ w) ≡ Some x) × (bytes ≡ w ++ stop ∷ rest))
    → cond t (ended (value seen) bytes) (cond m (word_at may value stop (seen ++ b ∷ []) bytes) (Err (suc (length bytes)))) ≡ Ok (x, rest)
    → (w : List ℕ) × (value (seen ++ w) ≡ Some x) × (b ∷ bytes ≡ w ++ stop ∷ rest)
takes_step may value stop seen b bytes x rest true m is later e =
    let k = ended_ok (value seen) bytes x rest e in
    let v = k.0 in
    let r = k.1 in
    let s = eqb-true b stop is in
    ([], ap value (append-nil seen) ∙ v, cc)
takes_step may value stop seen b bytes x rest false true is later e =
    let k = later e in
    let r = k.2 in
    (b ∷ k.0, ap value (sym (append_assoc seen (b ∷ []) k.0)) ∙ k.1, cc)
takes_step may value stop seen b bytes x rest false false is later e = absurd cc

word_takes : {X : Type 0} (may : List ℕ → Bool) (value : List ℕ → Option X) (stop : ℕ) (seen bytes : List ℕ) (x : X) (rest : List ℕ)
    → word_at may value stop seen bytes ≡ Ok (x, rest) → (w : List ℕ) × (value (seen ++ w) ≡ Some x) × (bytes ≡ w ++ stop ∷ rest)
unfolding word_at
word_takes may value stop seen [] x rest e = absurd cc
word_takes may value stop seen (b ∷ bytes) x rest e =
    takes_step may value stop seen b bytes x rest (eqb b stop) (may (seen ++ b ∷ [])) refl (word_takes may value stop (seen ++ b ∷ []) bytes x rest) e

word_again : {X : Type 0} (may : List ℕ → Bool) (value : List ℕ → Option X) (stop : ℕ) → IsWord may value stop
    → (seen w : List ℕ) (x : X) (rest : List ℕ)
    → value (seen ++ w) ≡ Some x → word_at may value stop seen (w ++ stop ∷ rest) ≡ Ok (x, rest)
unfolding word_at
word_again may value stop is seen [] x rest v =
    let same : value seen ≡ Some x = ap value (sym (append-nil seen)) ∙ v in
    rw (eq-eqb stop stop refl, same) refl
word_again may value stop is seen (b ∷ w) x rest v =
    let k = is.fronts seen w b x v in
    rw (ne_eqb b stop k.1, k.0) (word_again may value stop is (seen ++ b ∷ []) w x rest (ap value (append_assoc seen (b ∷ []) w) ∙ v))

-- the first fault behind what was seen
record Later {X : Type 0} (may : List ℕ → Bool) (value : List ℕ → Option X) (stop : ℕ) (seen bytes : List ℕ) (left : ℕ) : Type 0 where
  front : List ℕ
  back : List ℕ
  parts : bytes ≡ front ++ back
  left_is : length back ≡ left
  on : may (seen ++ front) ≡ true
  off : NoneGoesOn (Word value stop) (seen ++ front) back

single : (stop b : ℕ) (u more : List ℕ) → stop ∷ [] ≡ u ++ b ∷ more → (u ≡ []) × (b ≡ stop)
single stop b [] more e = (refl, cc)
single stop b (c ∷ []) more e = absurd cc
single stop b (c ∷ d ∷ u) more e = absurd cc

-- one byte ends a word or belongs to it
ends_or_not : (w seen more : List ℕ) (stop b : ℕ) → w ++ stop ∷ [] ≡ seen ++ b ∷ more
    → ((w ≡ seen) × (b ≡ stop)) ⊎ ((u : List ℕ) × (w ≡ seen ++ b ∷ u))
ends_or_not w seen more stop b e =
    elim (cuts w (stop ∷ []) seen (b ∷ more) e) [
      | inl h ↦
          let k = h.1 in
          let e2 : w ++ stop ∷ [] ≡ w ++ (h.0 ++ b ∷ more) = e ∙ ap (λ (t : List ℕ). t ++ b ∷ more) k ∙ append_assoc w h.0 (b ∷ more) in
          let one = single stop b h.0 more (append_cancel_left w (stop ∷ []) (h.0 ++ b ∷ more) e2) in
          inl (sym (append-nil w) ∙ ap (λ (t : List ℕ). w ++ t) (sym one.0) ∙ sym k, one.1)
      | inr h ↦
          let same : h.0 ≡ b = let k = h.3 in cc in
          inr (h.1, h.2 ∙ ap (λ (c : ℕ). seen ++ c ∷ h.1) same)
    ]

off_here : {X : Type 0} (may : List ℕ → Bool) (value : List ℕ → Option X) (stop : ℕ) → IsWord may value stop
    → (seen : List ℕ) (b : ℕ) (bytes : List ℕ)
    → (b ≡ stop → value seen ≡ None) → ((b ≡ stop → ⊥) → may (seen ++ b ∷ []) ≡ false) → NoneGoesOn (Word value stop) seen (b ∷ bytes)
off_here may value stop is seen b bytes at_stop at_other = λ x more g.
    elim (ends_or_not g.0 seen more stop b (sym g.2)) [
      | inl h ↦
          let v = ap value (sym h.0) ∙ g.1 in
          let n = at_stop h.1 in
          absurd cc
      | inr h ↦
          let k = is.fronts seen h.0 b x (ap value (sym h.1) ∙ g.1) in
          let m = at_other k.1 in
          let t = k.0 in
          absurd cc
    ]

stops_step : {X : Type 0} (may : List ℕ → Bool) (value : List ℕ → Option X) (stop : ℕ) → IsWord may value stop
    → (seen : List ℕ) (b : ℕ) (bytes : List ℕ) (left : ℕ) (t m : Bool)
    → may seen ≡ true → eqb b stop ≡ t → may (seen ++ b ∷ []) ≡ m
    → (may (seen ++ b ∷ []) ≡ true → word_at may value stop (seen ++ b ∷ []) bytes ≡ Err left → Later may value stop (seen ++ b ∷ []) bytes left)
    → cond t (ended (value seen) bytes) (cond m (word_at may value stop (seen ++ b ∷ []) bytes) (Err (suc (length bytes)))) ≡ Err left
    → Later may value stop seen (b ∷ bytes) left
stops_step may value stop is seen b bytes left true m on t-is m-is later e =
    let k = ended_err (value seen) bytes left e in
    record {
      front = [];
      back = b ∷ bytes;
      parts = refl;
      left_is = k.1;
      on = ap may (append-nil seen) ∙ on;
      off = rw append-nil (off_here may value stop is seen b bytes (λ _. k.0) (λ ne. absurd (ne (eqb-true b stop t-is))));
    }
stops_step may value stop is seen b bytes left false true on t-is m-is later e =
    let k = later m-is e in
    record {
      front = b ∷ k.front;
      back = k.back;
      parts = ap (λ (t : List ℕ). b ∷ t) k.parts;
      left_is = k.left_is;
      on = ap may (sym (append_assoc seen (b ∷ []) k.front)) ∙ k.on;
      off = subst (λ (t : List ℕ). NoneGoesOn (Word value stop) t k.back) (append_assoc seen (b ∷ []) k.front) k.off;
    }
stops_step may value stop is seen b bytes left false false on t-is m-is later e =
    record {
      front = [];
      back = b ∷ bytes;
      parts = refl;
      left_is = cc;
      on = ap may (append-nil seen) ∙ on;
      off = rw append-nil (off_here may value stop is seen b bytes (λ eq. absurd (eqb-false b stop t-is eq)) (λ _. m-is));
    }

word_stops : {X : Type 0} (may : List ℕ → Bool) (value : List ℕ → Option X) (stop : ℕ) → IsWord may value stop → (seen bytes : List ℕ) (left : ℕ)
    → may seen ≡ true → word_at may value stop seen bytes ≡ Err left → Later may value stop seen bytes left
unfolding word_at
word_stops may value stop is seen [] left on e =
    record { front = []; back = []; parts = refl; left_is = cc; on = ap may (append-nil seen) ∙ on; off = tt }
word_stops may value stop is seen (b ∷ bytes) left on e =
    stops_step may value stop is seen b bytes left (eqb b stop) (may (seen ++ b ∷ [])) on refl refl (word_stops may value stop is (seen ++ b ∷ []) bytes left) e

pub word_reads : {X : Type 0} (may : List ℕ → Bool) (value : List ℕ → Option X) (stop : ℕ) → IsWord may value stop
    → Reads (Word value stop) (word_at may value stop [])
word_reads may value stop is = record {
  takes = λ bytes x rest e.
      let k = word_takes may value stop [] bytes x rest e in
      (k.0 ++ stop ∷ [], (k.0, k.1, refl), k.2 ∙ sym (append_assoc k.0 (stop ∷ []) rest));
  again = λ x text rest g.
      ap (word_at may value stop []) (ap (λ (t : List ℕ). t ++ rest) g.2 ∙ append_assoc g.0 (stop ∷ []) rest) ∙ word_again may value stop is [] g.0 x rest g.1;
  stops = λ bytes left e.
      let k = word_stops may value stop is [] bytes left is.starts e in
      let m = is.ends k.front k.on in
      record {
        front = k.front;
        back = k.back;
        parts = k.parts;
        left_is = k.left_is;
        on =
            (m.0, m.1 ++ stop ∷ [], AllBytes-append m.1 (stop ∷ []) m.2 (is.stop_fits, tt), (k.front ++ m.1, m.3, sym (append_assoc k.front m.1 (stop ∷ []))));
        off = k.off;
      };
}

pub word_has : {X : Type 0} (may : List ℕ → Bool) (value : List ℕ → Option X) (stop : ℕ) → IsWord may value stop → HasText (Word value stop)
word_has may value stop is =
    let m = is.ends [] is.starts in
    (m.0, m.1 ++ stop ∷ [], AllBytes-append m.1 (stop ∷ []) m.2 (is.stop_fits, tt), (m.1, m.3, refl))

-- reading a word, and then its value, is one reader
span_then : {X : Type 0} (may : List ℕ → Bool) (value : List ℕ → Option X) (stop : ℕ) (seen bytes : List ℕ)
    → (word_at may (λ w. Some w) stop seen bytes >>= λ x. ended (value x.0) x.1) ≡ word_at may value stop seen bytes
unfolding word_at
span_then may value stop seen [] = refl
span_then {X} may value stop seen (b ∷ bytes) = at (eqb b stop) (may (seen ++ b ∷ [])) (span_then may value stop (seen ++ b ∷ []) bytes)
  where
    at : (t m : Bool)
        → (word_at may (λ w. Some w) stop (seen ++ b ∷ []) bytes >>= λ x. ended (value x.0) x.1) ≡ word_at may value stop (seen ++ b ∷ []) bytes
        → (cond t (ended (Some seen) bytes) (cond m (word_at may (λ w. Some w) stop (seen ++ b ∷ []) bytes) (Err (suc (length bytes)))) >>= λ x. ended (value x.0) x.1)
        ≡ cond t (ended (value seen) bytes) (cond m (word_at may value stop (seen ++ b ∷ []) bytes) (Err (suc (length bytes))))
    at true m later = refl
    at false true later = later
    at false false later = refl

pub reads_by : {X : Type 0} (spells : X → List ℕ → Type 0) (read other : List ℕ → Result (X × List ℕ) ℕ)
    → ((bytes : List ℕ) → other bytes ≡ read bytes) → Reads spells read → Reads spells other
reads_by spells read other same reads = record {
  takes = λ bytes x rest e. reads.takes bytes x rest (sym (same bytes) ∙ e);
  again = λ x text rest g. same (text ++ rest) ∙ reads.again x text rest g;
  stops = λ bytes left e. reads.stops bytes left (sym (same bytes) ∙ e);
}

pub valued_reads : {X : Type 0} (may : List ℕ → Bool) (value : List ℕ → Option X) (stop : ℕ) → IsWord may value stop
    → Reads (Word value stop) (valued_at may value stop)
valued_reads may value stop is =
    reads_by (Word value stop) (word_at may value stop []) (valued_at may value stop) (λ bytes. span_then may value stop [] bytes) (word_reads may value stop is)

-- the value of a word that was read
pub valued_of : {X : Type 0} (may : List ℕ → Bool) (value : List ℕ → Option X) (stop : ℕ) (bytes w rest : List ℕ) (o : Option X)
    → span_at may stop bytes ≡ Ok (w, rest) → value w ≡ o → valued_at may value stop bytes ≡ ended o rest
valued_of {X} may value stop bytes w rest o e v =
    ap (λ (r : Result (List ℕ × List ℕ) ℕ). r >>= λ x. ended (value x.0) x.1) e ∙ ap (λ (p : Option X). ended p rest) v

-- a word that was read passes
span_passes : (may : List ℕ → Bool) (stop : ℕ) (seen bytes w rest : List ℕ) → may seen ≡ true
    → word_at may (λ v. Some v) stop seen bytes ≡ Ok (w, rest) → may w ≡ true
unfolding word_at
span_passes may stop seen [] w rest on e = absurd cc
span_passes may stop seen (b ∷ bytes) w rest on e =
    at (eqb b stop) (may (seen ++ b ∷ [])) refl (λ m e. span_passes may stop (seen ++ b ∷ []) bytes w rest m e) e
  where
    at : (t m : Bool) → may (seen ++ b ∷ []) ≡ m
        → (may (seen ++ b ∷ []) ≡ true → word_at may (λ v. Some v) stop (seen ++ b ∷ []) bytes ≡ Ok (w, rest) → may w ≡ true)
        → cond t (ended (Some seen) bytes) (cond m (word_at may (λ v. Some v) stop (seen ++ b ∷ []) bytes) (Err (suc (length bytes)))) ≡ Ok (w, rest) → may w ≡ true
    at true m m-is later e =
        let same : (seen, bytes) ≡ (w, rest) = ok_is (seen, bytes) (w, rest) e in
        ap (λ (p : List ℕ × List ℕ). may p.0) (sym same) ∙ on
    at false true m-is later e = later m-is e
    at false false m-is later e = absurd cc

pub span_may : (may : List ℕ → Bool) (stop : ℕ) (bytes w rest : List ℕ) → may [] ≡ true → span_at may stop bytes ≡ Ok (w, rest) → may w ≡ true
span_may may stop bytes w rest on e = span_passes may stop [] bytes w rest on e

pub valued_err : {X : Type 0} (may : List ℕ → Bool) (value : List ℕ → Option X) (stop : ℕ) (bytes : List ℕ) (left : ℕ)
    → span_at may stop bytes ≡ Err left → valued_at may value stop bytes ≡ Err left
valued_err may value stop bytes left e = ap (λ (r : Result (List ℕ × List ℕ) ℕ). r >>= λ x. ended (value x.0) x.1) e
