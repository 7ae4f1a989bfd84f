-- The least path of the entries that pass a test, where the entries are in order and gone through.
use Rattle.std.proofs.Common.{◌≡◌, ◌-◌, ◌<◌, Bool, true, false, not, ◌&&◌, ◌||◌, nat_lt, cond, List, [], ◌∷◌, length, take, drop, get_or, Some, None, refl, sym, ap, subst, ◌∙◌, arith, Option, ℕ}
use Rattle.std.specs.Prelude.{filter, map}
use Rattle.std.specs.List.{AllByRecursion}
use Rattle.std.specs.Str.{bytes_eq}
use Rattle.std.proofs.lemmas.Bool.{and_parts}
use Rattle.std.proofs.lemmas.Slice.Eq.{bytes_eq-Decides}
use Rattle.seq_base.specs.declared.map.Entry.{Entry}
use Rattle.seq_base.specs.PathMaps.{is_less}
use Rattle.seq_base.specs.World.{World}
use Rattle.index_file.specs.declared.entry.IndexEntry.{IndexEntry}
use Rattle.index_file.specs.Entries.{IsInOrder, comes_before, holds, may_precede}
use Rattle.seq_outside.proofs.Firsts.{first_and_others}
use Rattle.stage_index.specs.Changes.{changed, is_changed}
use Rattle.stage_index.specs.Stages.{row_of}
use Rattle.stage_index.specs.Switching.{first_obstructed, is_obstructed}
use Rattle.stage_index.specs.Least.{least}
use Rattle.stage_index.proofs.Leasts.{least_at}
use Rattle.stage_index.proofs.Orders.{less_back, not_less_itself}

-- what stands before an entry is not greater
not_greater : (e d : IndexEntry) → may_precede e d ≡ true → is_less d.path e.path ≡ false
not_greater e d h = at (is_less e.path d.path) refl (bytes_eq e.path d.path) refl (and_parts (comes_before e d) (not (holds e d)) h).0
  where
    at : (t : Bool) → is_less e.path d.path ≡ t → (u : Bool) → bytes_eq e.path d.path ≡ u
        → t || (u && (nat_lt 0 e.stage && nat_lt e.stage d.stage)) ≡ true → is_less d.path e.path ≡ false
    at true less u same k = less_back e.path d.path less
    at false less true same k = ap (is_less d.path) ((bytes_eq-Decides e.path d.path).0 same) ∙ not_less_itself d.path
    at false less false same k = absurd cc

none_before : (test : IndexEntry → Bool) (e : IndexEntry) (es : List IndexEntry) → AllByRecursion (λ d. may_precede e d ≡ true) es
    → AllByRecursion (λ q. is_less q e.path ≡ false) (map (λ d. d.path) (filter test es))
none_before test e [] h = tt
none_before test e (d ∷ es) h = at (test d) (none_before test e es h.1)
  where
    at : (t : Bool) → AllByRecursion (λ q. is_less q e.path ≡ false) (map (λ d. d.path) (filter test es))
        → AllByRecursion (λ q. is_less q e.path ≡ false) (map (λ d. d.path) (cond t (d ∷ filter test es) (filter test es)))
    at true more = (not_greater e d h.0, more)
    at false more = more

abbrev pub first_passing : (IndexEntry → Bool) → List IndexEntry → Option (List ℕ)
first_passing test es = least (map (λ d. d.path) (filter test es))

passing_first : (test : IndexEntry → Bool) (e : IndexEntry) (es : List IndexEntry) → IsInOrder (e ∷ es) → test e ≡ true
    → first_passing test (e ∷ es) ≡ Some e.path
passing_first test e es order is =
    ap (λ (t : Bool). least (map (λ d. d.path) (cond t (e ∷ filter test es) (filter test es)))) is
    ∙ least_at [] (map (λ d. d.path) (filter test es)) e.path tt (not_less_itself e.path, none_before test e es order.0)

passing_later : (test : IndexEntry → Bool) (e : IndexEntry) (es : List IndexEntry) → test e ≡ false
    → first_passing test es ≡ first_passing test (e ∷ es)
passing_later test e es is = ap (λ (t : Bool). least (map (λ d. d.path) (cond t (e ∷ filter test es) (filter test es)))) (sym is)

-- the rest has the least path that all have
pub record Rest (test : IndexEntry → Bool) (index rest : List IndexEntry) : Type 0 where
  pub same : first_passing test rest ≡ first_passing test index

pub rest_begins : (test : IndexEntry → Bool) (index : List IndexEntry) → Rest test index index
rest_begins test index = record { same = refl }

pub fails_at : (test : IndexEntry → Bool) (index rest : List IndexEntry) (e : IndexEntry) → Rest test index rest → 0 < length rest
    → e ≡ get_or rest 0 e → test e ≡ false → Rest test index (take (length rest - 1) (drop 1 rest))
fails_at test index rest e so_far some first is =
    record { same = passing_later test e _ is ∙ ap (first_passing test) (sym (first_and_others rest e some first)) ∙ so_far.same }

pub passes_at : (test : IndexEntry → Bool) (index rest : List IndexEntry) (e : IndexEntry) → Rest test index rest → IsInOrder rest → 0 < length rest
    → e ≡ get_or rest 0 e → test e ≡ true → Some e.path ≡ first_passing test index
passes_at test index rest e so_far order some first is =
    let split = first_and_others rest e some first in
    sym (passing_first test e _ (subst IsInOrder split order) is) ∙ ap (first_passing test) (sym split) ∙ so_far.same

pub order_at : (rest : List IndexEntry) (e : IndexEntry) → IsInOrder rest → 0 < length rest → e ≡ get_or rest 0 e
    → IsInOrder (take (length rest - 1) (drop 1 rest))
order_at rest e order some first = (subst IsInOrder (first_and_others rest e some first) order).1

no_entries : (rest : List IndexEntry) → length rest ≡ 0 → rest ≡ []
no_entries [] h = refl
no_entries (e ∷ es) h = absurd (omega arith)

pub none_at : (test : IndexEntry → Bool) (index rest : List IndexEntry) → Rest test index rest → length rest ≡ 0 → None ≡ first_passing test index
none_at test index rest so_far none = ap (first_passing test) (sym (no_entries rest none)) ∙ so_far.same

-- ---- which test it is

pub changed_is : (w : World) (index : List IndexEntry) → first_passing (is_changed w) index ≡ changed w index
unfolding changed
changed_is w index = refl

filter_rows : (test : List ℕ × Entry → Bool) (es : List IndexEntry)
    → map (λ d. d.path) (filter (λ e. test (row_of e)) es) ≡ map (λ d. d.0) (filter test (map row_of es))
filter_rows test [] = refl
filter_rows test (e ∷ es) = at (test (row_of e)) (filter_rows test es)
  where
    at : (t : Bool) → map (λ d. d.path) (filter (λ e. test (row_of e)) es) ≡ map (λ d. d.0) (filter test (map row_of es))
        → map (λ d. d.path) (cond t (e ∷ filter (λ e. test (row_of e)) es) (filter (λ e. test (row_of e)) es)) ≡ map (λ d. d.0) (cond t (row_of e ∷ filter test (map row_of es)) (filter test (map row_of es)))
    at true later = ap (λ (ps : List (List ℕ)). e.path ∷ ps) later
    at false later = later

pub obstructed_is : (w : World) (from to : List IndexEntry)
    → first_passing (λ e. is_obstructed w from (row_of e)) to ≡ first_obstructed w from (map row_of to)
unfolding first_obstructed
obstructed_is w from to = ap least (filter_rows (is_obstructed w from) to)
