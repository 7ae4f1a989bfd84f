-- A path's stages among the entries of others, in order.
use Rattle.std.proofs.Common.{◌≡◌, ℕ, Bool, true, false, not, ◌&&◌, ◌||◌, nat_lt, cond, List, [], ◌∷◌, ◌++◌, refl, sym, subst}
use Rattle.std.specs.List.{AllByRecursion}
use Rattle.std.specs.Str.{bytes_eq}
use Rattle.std.proofs.lemmas.Bool.{and_from, and_parts, not_from_false, or_left, or_parts}
use Rattle.std.proofs.lemmas.Slice.Eq.{bytes_eq-Decides}
use Rattle.seq_base.specs.PathMaps.{is_less}
use Rattle.seq_base.specs.Words.{Path}
use Rattle.seq_base.specs.declared.map.Entry.{Entry}
use Rattle.index_file.specs.declared.entry.IndexEntry.{IndexEntry}
use Rattle.index_file.specs.Entries.{IsInOrder, comes_before, holds, may_precede}
use Rattle.stage_index.specs.Staged.{NoneClashes, others_of, placed, staged_as, staged_from, with_stages}
use Rattle.stage_index.proofs.Orders.{less_chain, less_otherwise}
use Rattle.std.specs.Prelude.{Option, Some, None, ◌+◌}

-- every one of these comes after it
abbrev Leads : IndexEntry → List IndexEntry → Type 0
Leads e es = AllByRecursion (λ d. may_precede e d ≡ true) es

precedes : (e d : IndexEntry) → is_less e.path d.path ≡ true → holds e d ≡ false → may_precede e d ≡ true
precedes e d less apart = and_from (comes_before e d) (not (holds e d)) (or_left (is_less e.path d.path) _ less) (not_from_false (holds e d) apart)

-- a path before an entry's is before those of what comes after that
less_later : (path : Path) (e d : IndexEntry) → is_less path e.path ≡ true → may_precede e d ≡ true → is_less path d.path ≡ true
less_later path e d less h = at (is_less e.path d.path) refl (bytes_eq e.path d.path) refl (and_parts (comes_before e d) (not (holds e d)) h).0
  where
    at : (t : Bool) → is_less e.path d.path ≡ t → (u : Bool) → bytes_eq e.path d.path ≡ u
        → t || (u && (nat_lt 0 e.stage && nat_lt e.stage d.stage)) ≡ true → is_less path d.path ≡ true
    at true more u same k = less_chain path e.path d.path less more
    at false more true same k = subst (λ (p : Path). is_less path p ≡ true) ((bytes_eq-Decides e.path d.path).0 same) less
    at false more false same k = absurd cc

all_placed : (P : IndexEntry → Type 0) (es new : List IndexEntry) (path : Path) → AllByRecursion P es → AllByRecursion P new
    → AllByRecursion P (placed es path new)
all_placed P [] new path first second = second
all_placed P (e ∷ es) new path first second = at (is_less path e.path) (all_placed P es new path first.1 second)
  where
    joined : (ns : List IndexEntry) → AllByRecursion P ns → AllByRecursion P (ns ++ e ∷ es)
    joined [] all = first
    joined (n ∷ ns) all = (all.0, joined ns all.1)

    at : (t : Bool) → AllByRecursion P (placed es path new) → AllByRecursion P (cond t (new ++ e ∷ es) (e ∷ placed es path new))
    at true later = joined new second
    at false later = (first.0, later)

abbrev AllAt : Path → List IndexEntry → Type 0
AllAt path ns = AllByRecursion (λ n. n.path ≡ path) ns

-- one of the path comes before entries behind it
leads_behind : (n : IndexEntry) (path : Path) (es : List IndexEntry) → n.path ≡ path → AllByRecursion (λ d. is_less path d.path ≡ true) es
    → AllByRecursion (λ d. holds n d ≡ false) es → Leads n es
leads_behind n path [] at less apart = tt
leads_behind n path (d ∷ es) at less apart =
    (precedes n d (subst (λ (p : Path). is_less p d.path ≡ true) (sym at) less.0) apart.0, leads_behind n path es at less.1 apart.1)

behind_all : (path : Path) (e : IndexEntry) (es : List IndexEntry) → is_less path e.path ≡ true → Leads e es
    → AllByRecursion (λ d. is_less path d.path ≡ true) es
behind_all path e [] less leads = tt
behind_all path e (d ∷ es) less leads = (less_later path e d less leads.0, behind_all path e es less leads.1)

-- how the path's entries and another are apart
apart_back : (n : IndexEntry) (es ns : List IndexEntry) → NoneClashes es (n ∷ ns) → AllByRecursion (λ d. holds n d ≡ false) es
apart_back n [] ns apart = tt
apart_back n (d ∷ es) ns apart = ((or_parts (holds d n) (holds n d) apart.0.0).1, apart_back n es ns apart.1)

apart_rest : (n : IndexEntry) (es ns : List IndexEntry) → NoneClashes es (n ∷ ns) → NoneClashes es ns
apart_rest n [] ns apart = tt
apart_rest n (d ∷ es) ns apart = (apart.0.1, apart_rest n es ns apart.1)

in_front : (new es : List IndexEntry) (path : Path) → IsInOrder new → AllAt path new → IsInOrder es
    → AllByRecursion (λ d. is_less path d.path ≡ true) es → NoneClashes es new → IsInOrder (new ++ es)
in_front [] es path order at behind less apart = behind
in_front (n ∷ ns) es path order at behind less apart =
    (leads_both ns order.0, in_front ns es path order.1 at.1 behind less (apart_rest n es ns apart))
  where
    leads_both : (ms : List IndexEntry) → Leads n ms → Leads n (ms ++ es)
    leads_both [] leads = leads_behind n path es at.0 less (apart_back n es ns apart)
    leads_both (m ∷ ms) leads = (leads.0, leads_both ms leads.1)

before_new : (e : IndexEntry) (path : Path) (new : List IndexEntry) → is_less e.path path ≡ true → AllAt path new
    → AllByRecursion (λ n. holds e n || holds n e ≡ false) new → Leads e new
before_new e path [] less at apart = tt
before_new e path (n ∷ ns) less at apart =
    (precedes e n (subst (λ (p : Path). is_less e.path p ≡ true) (sym at.0) less) (or_parts (holds e n) (holds n e) apart.0).0, before_new e path ns less at.1 apart.1)

order_placed : (es new : List IndexEntry) (path : Path) → IsInOrder es → AllByRecursion (λ e. bytes_eq e.path path ≡ false) es → IsInOrder new
    → AllAt path new → NoneClashes es new → IsInOrder (placed es path new)
order_placed [] new path order others first here apart = first
order_placed (e ∷ es) new path order others first here apart =
    at (is_less path e.path) refl (order_placed es new path order.1 others.1 first here apart.1)
  where
    at : (t : Bool) → is_less path e.path ≡ t → IsInOrder (placed es path new) → IsInOrder (cond t (new ++ e ∷ es) (e ∷ placed es path new))
    at true less later = in_front new (e ∷ es) path first here order (less, behind_all path e es less order.0) apart
    at false more later =
        let less : is_less e.path path ≡ true = less_otherwise e.path path others.0 more in
        (all_placed (λ d. may_precede e d ≡ true) es new path order.0 (before_new e path new less here apart.0), later)

-- ---- the entries of others

kept_leads : (e : IndexEntry) (es : List IndexEntry) (path : Path) → Leads e es → Leads e (others_of es path)
kept_leads e [] path leads = tt
kept_leads e (d ∷ es) path leads = at (bytes_eq d.path path) (kept_leads e es path leads.1)
  where
    at : (t : Bool) → Leads e (others_of es path) → Leads e (cond (not t) (d ∷ others_of es path) (others_of es path))
    at true later = later
    at false later = (leads.0, later)

kept_order : (es : List IndexEntry) (path : Path) → IsInOrder es → IsInOrder (others_of es path)
kept_order [] path order = tt
kept_order (e ∷ es) path order = at (bytes_eq e.path path) (kept_order es path order.1)
  where
    at : (t : Bool) → IsInOrder (others_of es path) → IsInOrder (cond (not t) (e ∷ others_of es path) (others_of es path))
    at true later = later
    at false later = (kept_leads e es path order.0, later)

are_others : (es : List IndexEntry) (path : Path) → AllByRecursion (λ e. bytes_eq e.path path ≡ false) (others_of es path)
are_others [] path = tt
are_others (e ∷ es) path = at (bytes_eq e.path path) refl (are_others es path)
  where
    at : (t : Bool) → bytes_eq e.path path ≡ t → AllByRecursion (λ e. bytes_eq e.path path ≡ false) (others_of es path)
        → AllByRecursion (λ e. bytes_eq e.path path ≡ false) (cond (not t) (e ∷ others_of es path) (others_of es path))
    at true is later = later
    at false is later = (is, later)

all_here : (path : Path) (stage : ℕ) (es : List (Option Entry)) → AllAt path (staged_from path stage es)
all_here path stage [] = tt
all_here path stage (None ∷ es) = all_here path (stage + 1) es
all_here path stage (Some e ∷ es) = (refl, all_here path (stage + 1) es)

pub set_in_order : (es : List IndexEntry) (path : Path) (stages : List (Option Entry)) → IsInOrder es → IsInOrder (staged_as path stages)
    → NoneClashes (others_of es path) (staged_as path stages) → IsInOrder (with_stages es path stages)
set_in_order es path stages order first apart =
    order_placed (others_of es path) (staged_as path stages) path (kept_order es path order) (are_others es path) first (all_here path 0 stages) apart
