-- What was written piece by piece.
use Rattle.std.proofs.Common.{◌≡◌, ℕ, ◌+◌, ◌<◌, ◌≤◌, List, [], ◌∷◌, ◌++◌, length, take, get_or, Result, Ok, Err, refl, sym, ap, subst, ◌∙◌, append_assoc, arith}
use Rattle.std.specs.Prelude.{OnOk}
use Rattle.std.specs.List.{AllByRecursion, flat_map}
use Rattle.std.specs.declared.alloc.AllocError.{AllocError}
use Rattle.hex.specs.Hex.{IsBytes}
use Rattle.seq_base.specs.Paths.{IsPath}
use Rattle.index_file.specs.Entries.{IsStaged}
use Rattle.sha1.specs.Sha1.{sha1}
use Rattle.std.proofs.lemmas.List.{take_more, take_all, flat_map_more}
use Rattle.index_file.specs.declared.entry.IndexEntry.{IndexEntry}
use Rattle.index_file.specs.Spelling.{IsRow, no_stat, header_text, entry_text, index_text}

regroup : (out a b c d e f g : List ℕ) → (((((((out ++ a) ++ b) ++ c) ++ d) ++ e) ++ f) ++ g) ≡ out ++ (a ++ (b ++ (c ++ (d ++ (e ++ (f ++ g))))))
regroup out a b c d e f g = simp append_assoc

pub seven_pieces : (r : Result (Unit {0}) AllocError) (out o1 o2 o3 o4 o5 o6 o7 a b c d e f g : List ℕ) → o1 ≡ out ++ a → o2 ≡ o1 ++ b → o3 ≡ o2 ++ c
    → o4 ≡ o3 ++ d → o5 ≡ o4 ++ e → o6 ≡ o5 ++ f → OnOk r (o7 ≡ o6 ++ g)
    → OnOk r (o7 ≡ out ++ (a ++ (b ++ (c ++ (d ++ (e ++ (f ++ g)))))))
seven_pieces (Err x) out o1 o2 o3 o4 o5 o6 o7 a b c d e f g p1 p2 p3 p4 p5 p6 p7 = tt
seven_pieces (Ok x) out o1 o2 o3 o4 o5 o6 o7 a b c d e f g p1 p2 p3 p4 p5 p6 p7 = let same = regroup out a b c d e f g in cc

pub one_more_entry : (old new : List ℕ) (es : List IndexEntry) (i : ℕ) (e : IndexEntry) → i < length es → e ≡ get_or es i e
    → old ≡ header_text (length es) ++ flat_map entry_text (take i es) → new ≡ old ++ entry_text e
    → new ≡ header_text (length es) ++ flat_map entry_text (take (i + 1) es)
one_more_entry old new es i e lt is p q =
    let more : take (i + 1) es ≡ take i es ++ e ∷ [] = take_more es i e lt ∙ ap (λ (x : IndexEntry). take i es ++ x ∷ []) (sym is) in
    q ∙ ap (λ (o : List ℕ). o ++ entry_text e) p ∙ flat_map_more entry_text (header_text (length es)) (take i es) e ∙ ap (λ (t : List IndexEntry). header_text (length es) ++ flat_map entry_text t) (sym more)

pub all_entries : (out : List ℕ) (es : List IndexEntry) (i : ℕ) → length es ≤ i → out ≡ header_text (length es) ++ flat_map entry_text (take i es)
    → out ≡ header_text (length es) ++ flat_map entry_text es
all_entries out es i le h = h ∙ ap (λ (t : List IndexEntry). header_text (length es) ++ flat_map entry_text t) (take_all i es le)

pub finished : (out hash hashed text : List ℕ) (es : List IndexEntry) (i : ℕ) → length es ≤ i
    → out ≡ header_text (length es) ++ flat_map entry_text (take i es) → hashed ≡ out → hash ≡ sha1 hashed → text ≡ out ++ hash → text ≡ index_text es
finished out hash hashed text es i le h p q r = let all = all_entries out es i le h in
    r ∙ ap (λ (x : List ℕ). out ++ x) (q ∙ ap sha1 p) ∙ ap (λ (o : List ℕ). o ++ sha1 o) all

all_push : (P : IndexEntry → Type 0) (es : List IndexEntry) (e : IndexEntry) → AllByRecursion P es → P e → AllByRecursion P (es ++ e ∷ [])
all_push P [] e h p = (p, tt)
all_push P (d ∷ es) e h p = (h.0, all_push P es e h.1 p)

pub one_more_row : (es : List IndexEntry) (i : ℕ) (e : IndexEntry) → i < length es → e ≡ get_or es i e
    → AllByRecursion (λ e. IsRow (no_stat, e)) (take i es) → IsRow (no_stat, e) → AllByRecursion (λ e. IsRow (no_stat, e)) (take (i + 1) es)
one_more_row es i e lt is h row =
    let more : take (i + 1) es ≡ take i es ++ e ∷ [] = take_more es i e lt ∙ ap (λ (x : IndexEntry). take i es ++ x ∷ []) (sym is) in
    let Q : List IndexEntry → Type 0 = λ x. AllByRecursion (λ e. IsRow (no_stat, e)) x in
    subst Q (sym more) (all_push (λ e. IsRow (no_stat, e)) (take i es) e h row)

pub all_rows_are : (es : List IndexEntry) (i : ℕ) → length es ≤ i → AllByRecursion (λ e. IsRow (no_stat, e)) (take i es)
    → AllByRecursion (λ e. IsRow (no_stat, e)) es
all_rows_are es i le h = let Q : List IndexEntry → Type 0 = λ x. AllByRecursion (λ e. IsRow (no_stat, e)) x in subst Q (take_all i es le) h

pub row_by : (r : Result (Unit {0}) AllocError) (e : IndexEntry) → IsStaged e → IsPath e.path → length e.id ≡ 20 → IsBytes e.id
    → OnOk r (IsRow (no_stat, e))
row_by (Err x) e staged path twenty bytes = tt
row_by (Ok x) e staged path twenty bytes =
    record { stat = record { times = refl; owner = refl; assumed = omega arith }; staged = staged; path = path; id = twenty; bytes = bytes }
