-- Unmerged paths, as far as they were listed.
use Rattle.std.proofs.Common.{◌≡◌, ◌-◌, ◌<◌, Bool, true, false, not, ◌||◌, cond, List, [], ◌∷◌, ◌++◌, append_assoc, length, take, drop, get_or, refl, sym, ap, subst, ◌∙◌, arith}
use Rattle.std.specs.Prelude.{filter, map}
use Rattle.std.specs.Str.{bytes_eq}
use Rattle.std.proofs.lemmas.Bool.{both_ways, false_from_ne_true}
use Rattle.std.proofs.lemmas.List.{append-nil}
use Rattle.std.proofs.lemmas.Slice.Eq.{bytes_eq-Decides}
use Rattle.seq_base.specs.Words.{Path}
use Rattle.seq_outside.proofs.Firsts.{first_and_others}
use Rattle.index_file.specs.declared.entry.IndexEntry.{IndexEntry}
use Rattle.stage_index.specs.Stages.{is_merged}
use Rattle.stage_index.specs.Unmerged.{each_once, is_unmerged, unmerged_paths}
use Rattle.stage_index.specs.Walks.{is_listed, listed_too}

abbrev unlisted : List Path → List Path → List Path
unlisted listed paths = filter (λ path. not (is_listed listed path)) paths

abbrev without : Path → List Path → List Path
without p paths = filter (λ other. not (bytes_eq other p)) paths

-- behind those that were listed the rest has what all have
pub record Listed (all rest : List IndexEntry) (now : List Path) : Type 0 where
  pub so_far : unmerged_paths all ≡ now ++ unlisted now (unmerged_paths rest)

every : (xs : List Path) → xs ≡ unlisted [] xs
every [] = refl
every (x ∷ xs) = ap (λ (ys : List Path). x ∷ ys) (every xs)

pub listing_begins : (all : List IndexEntry) (now : List Path) → now ≡ [] → Listed all all now
listing_begins all now none = subst (Listed all all) (sym none) (record { so_far = every (unmerged_paths all) })

-- ---- one path more

other_way : (p x : Path) → bytes_eq x p ≡ false → bytes_eq p x ≡ false
other_way p x apart =
    false_from_ne_true (bytes_eq p x) (λ is. both_ways (bytes_eq x p) apart ((bytes_eq-Decides x p).1 (sym ((bytes_eq-Decides p x).0 is))))

-- what is listed already
dropped : (now : List Path) (p : Path) (xs : List Path) → is_listed now p ≡ true → unlisted now (without p xs) ≡ unlisted now xs
dropped now p [] there = refl
dropped now p (x ∷ xs) there = at (bytes_eq x p) refl (dropped now p xs there)
  where
    at : (t : Bool) → bytes_eq x p ≡ t → unlisted now (without p xs) ≡ unlisted now xs
        → unlisted now (cond (not t) (x ∷ without p xs) (without p xs)) ≡ cond (not (is_listed now x)) (x ∷ unlisted now xs) (unlisted now xs)
    at true same later =
        let listed : is_listed now x ≡ true = ap (is_listed now) ((bytes_eq-Decides x p).0 same) ∙ there in
        later ∙ sym (ap (λ (t : Bool). cond (not t) (x ∷ unlisted now xs) (unlisted now xs)) listed)
    at false apart later = ap (λ (ys : List Path). cond (not (is_listed now x)) (x ∷ ys) ys) later

or_false : (b : Bool) → b || false ≡ b
or_false true = refl
or_false false = refl

or_true : (b : Bool) → b || true ≡ true
or_true true = refl
or_true false = refl

listed_more : (now : List Path) (p x : Path) → is_listed (now ++ p ∷ []) x ≡ is_listed now x || bytes_eq p x
listed_more [] p x = or_false (bytes_eq p x)
listed_more (n ∷ now) p x = at (bytes_eq n x) (listed_more now p x)
  where
    at : (t : Bool) → is_listed (now ++ p ∷ []) x ≡ is_listed now x || bytes_eq p x
        → t || is_listed (now ++ p ∷ []) x ≡ (t || is_listed now x) || bytes_eq p x
    at true later = refl
    at false later = later

added : (now : List Path) (p : Path) (xs : List Path) → unlisted now (without p xs) ≡ unlisted (now ++ p ∷ []) xs
added now p [] = refl
added now p (x ∷ xs) = at (bytes_eq x p) refl (added now p xs)
  where
    at : (t : Bool) → bytes_eq x p ≡ t → unlisted now (without p xs) ≡ unlisted (now ++ p ∷ []) xs
        → unlisted now (cond (not t) (x ∷ without p xs) (without p xs)) ≡ cond (not (is_listed (now ++ p ∷ []) x)) (x ∷ unlisted (now ++ p ∷ []) xs) (unlisted (now ++ p ∷ []) xs)
    at true same later =
        let here : bytes_eq p x ≡ true = (bytes_eq-Decides p x).1 (sym ((bytes_eq-Decides x p).0 same)) in
        let listed : is_listed (now ++ p ∷ []) x ≡ true = listed_more now p x ∙ ap (λ (t : Bool). is_listed now x || t) here ∙ or_true (is_listed now x) in
        later ∙ sym (ap (λ (t : Bool). cond (not t) (x ∷ unlisted (now ++ p ∷ []) xs) (unlisted (now ++ p ∷ []) xs)) listed)
    at false apart later =
        let listed : is_listed (now ++ p ∷ []) x ≡ is_listed now x = listed_more now p x ∙ ap (λ (t : Bool). is_listed now x || t) (other_way p x apart) ∙ or_false (is_listed now x) in
        ap (λ (ys : List Path). cond (not (is_listed now x)) (x ∷ ys) ys) later
        ∙ sym (ap (λ (t : Bool). cond (not t) (x ∷ unlisted (now ++ p ∷ []) xs) (unlisted (now ++ p ∷ []) xs)) listed)

one_more : (now : List Path) (e : IndexEntry) (es : List IndexEntry)
    → now ++ unlisted now (unmerged_paths (e ∷ es)) ≡ listed_too now e ++ unlisted (listed_too now e) (unmerged_paths es)
one_more now e es = at (is_merged e) (is_listed now e.path) refl
  where
    rest : List Path
    rest = unmerged_paths es

    at : (m l : Bool) → is_listed now e.path ≡ l
        → now ++ unlisted now (each_once (map (λ d. d.path) (cond (not m) (e ∷ filter is_unmerged es) (filter is_unmerged es)))) ≡ cond (m || l) now (now ++ e.path ∷ []) ++ unlisted (cond (m || l) now (now ++ e.path ∷ [])) rest
    at true l is = refl
    at false true is =
        ap (λ (ys : List Path). now ++ ys) (ap (λ (t : Bool). cond (not t) (e.path ∷ unlisted now (without e.path rest)) (unlisted now (without e.path rest))) is ∙ dropped now e.path rest is)
    at false false is =
        ap (λ (ys : List Path). now ++ ys) (ap (λ (t : Bool). cond (not t) (e.path ∷ unlisted now (without e.path rest)) (unlisted now (without e.path rest))) is ∙ ap (λ (ys : List Path). e.path ∷ ys) (added now e.path rest))
        ∙ sym (append_assoc now (e.path ∷ []) (unlisted (now ++ e.path ∷ []) rest))

pub listed_at : (all rest : List IndexEntry) (now next : List Path) (e : IndexEntry) → Listed all rest now → 0 < length rest → e ≡ get_or rest 0 e
    → next ≡ listed_too now e → Listed all (take (length rest - 1) (drop 1 rest)) next
listed_at all rest now next e listed some first is =
    let others = take (length rest - 1) (drop 1 rest) in
    subst (Listed all others) (sym is) (record {
      so_far =
          listed.so_far ∙ ap (λ (es : List IndexEntry). now ++ unlisted now (unmerged_paths es)) (first_and_others rest e some first)
          ∙ one_more now e others;
    })

no_entries : (rest : List IndexEntry) → length rest ≡ 0 → rest ≡ []
no_entries [] h = refl
no_entries (e ∷ es) h = absurd (omega arith)

pub all_listed : (all rest : List IndexEntry) (now : List Path) → Listed all rest now → length rest ≡ 0 → now ≡ unmerged_paths all
all_listed all rest now listed none =
    sym (listed.so_far ∙ ap (λ (es : List IndexEntry). now ++ unlisted now (unmerged_paths es)) (no_entries rest none) ∙ append-nil now)
