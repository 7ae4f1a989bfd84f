-- Reading entries one after the other, as a loop does.
use Rattle.std.proofs.Common.{◌≡◌, ℕ, suc, ◌-◌, ◌+◌, ◌≤◌, ◌<◌, Bool, true, false, cond, List, [], ◌∷◌, ◌++◌, length, Result, Ok, Err, refl, sym, ap, ◌∙◌, arith}
use Rattle.std.proofs.lemmas.List.{length_push}
use Rattle.index_file.specs.declared.entry.IndexEntry.{IndexEntry}
use Rattle.index_file.specs.declared.fault.IndexFault.{IndexFault}
use Rattle.index_file.specs.declared.fault.IndexFault.TheVariants.{Order}
use Rattle.index_file.specs.Fronts.{may_follow}
use Rattle.index_file.specs.Reading.{◌>>=◌, Fails, entry_at, appended, entries_at}
use Rattle.index_file.proofs.Trailers.{fails_then, fails_along}

more_by : (t : Bool) (x y : List IndexEntry) (f : IndexFault) → cond t (Ok x) (Err f) ≡ Ok y → (t ≡ true) × (x ≡ y)
more_by true x y f e = (refl, cc)
more_by false x y f e = cc

pub appended_is : (es : List IndexEntry) (e : IndexEntry) (more : List IndexEntry) → appended es e ≡ Ok more
    → (may_follow es e ≡ true) × (es ++ e ∷ [] ≡ more)
unfolding appended
appended_is es e more h = more_by (may_follow es e) (es ++ e ∷ []) more (Order (length es + 1)) h

pub appended_len : (es : List IndexEntry) (e : IndexEntry) (more : List IndexEntry) (i : ℕ) → appended es e ≡ Ok more → length es ≡ i
    → length more ≡ i + 1
appended_len es e more i h n = sym (ap length (appended_is es e more h).1) ∙ length_push es e ∙ ap (λ (k : ℕ). k + 1) n

-- one step of the reading
step : (count i : ℕ) (es : List IndexEntry) (bytes : List ℕ) → i < count → length es ≡ i
    → entries_at (count - i) es bytes ≡ (entry_at (i + 1) bytes >>= λ x. appended es x.0 >>= λ more. entries_at (count - (i + 1)) more x.1)
unfolding entries_at
step count i es bytes lt n =
    let k : count - i ≡ suc (count - (i + 1)) = omega arith in
    rw k (ap (λ (j : ℕ). entry_at (j + 1) bytes >>= λ x. appended es x.0 >>= λ more. entries_at (count - (i + 1)) more x.1) n)

pub goes_on : (count i : ℕ) (es more : List IndexEntry) (e : IndexEntry) (bytes after : List ℕ) (total : Result (List IndexEntry × List ℕ) IndexFault)
    → i < count → length es ≡ i
    → entry_at (i + 1) bytes ≡ Ok (e, after) → appended es e ≡ Ok more → entries_at (count - i) es bytes ≡ total → entries_at (count - (i + 1)) more after ≡ total
goes_on count i es more e bytes after total lt n p q h = sym (step count i es bytes lt n ∙ rw (p, q) refl) ∙ h

pub entry_fails : (f : IndexFault) (count i : ℕ) (es : List IndexEntry) (bytes : List ℕ) (total : Result (List IndexEntry × List ℕ) IndexFault)
    → i < count → length es ≡ i
    → Fails f (entry_at (i + 1) bytes) → entries_at (count - i) es bytes ≡ total → Fails f total
entry_fails f count i es bytes total lt n p h =
    fails_along f _ total (sym (step count i es bytes lt n) ∙ h) (fails_then f (entry_at (i + 1) bytes) (λ x. appended es x.0 >>= λ more. entries_at (count - (i + 1)) more x.1) p)

pub append_fails : (f : IndexFault) (count i : ℕ) (es : List IndexEntry) (e : IndexEntry) (bytes after : List ℕ) (total : Result (List IndexEntry × List ℕ) IndexFault)
    → i < count → length es ≡ i
    → entry_at (i + 1) bytes ≡ Ok (e, after) → Fails f (appended es e) → entries_at (count - i) es bytes ≡ total → Fails f total
append_fails f count i es e bytes after total lt n p q h =
    fails_along f _ total (sym (step count i es bytes lt n ∙ rw p refl) ∙ h) (fails_then f (appended es e) (λ more. entries_at (count - (i + 1)) more after) q)

pub is_done : (count i : ℕ) (es : List IndexEntry) (bytes : List ℕ) (total : Result (List IndexEntry × List ℕ) IndexFault) → count ≤ i
    → entries_at (count - i) es bytes ≡ total → total ≡ Ok (es, bytes)
unfolding entries_at
is_done count i es bytes total le h = let k : count - i ≡ 0 = omega arith in sym h ∙ rw k refl
