-- The stages of a path, among the entries of others.
use Rattle.std.proofs.Common.{◌≡◌, ℕ, ◌+◌, ◌-◌, ◌<◌, Bool, true, false, not, cond, List, [], ◌∷◌, ◌++◌, append_assoc, length, take, drop, get_or, Option, Some, None, refl, sym, ap, ◌∙◌, arith}
use Rattle.std.specs.Str.{bytes_eq}
use Rattle.std.proofs.lemmas.List.{append-nil, drop_at, take_at}
use Rattle.std.proofs.lemmas.List.Elements.{filter-append}
use Rattle.seq_base.specs.PathMaps.{is_less}
use Rattle.seq_base.specs.Words.{Path}
use Rattle.seq_base.specs.declared.map.Entry.{Entry}
use Rattle.seq_outside.proofs.Firsts.{first_and_others}
use Rattle.index_file.specs.declared.entry.IndexEntry.{IndexEntry}
use Rattle.stage_index.specs.Staged.{at_stage, others_of, placed, staged_as, staged_from, stages_at, with_stages}
use Rattle.stage_index.proofs.Orders.{same_path}

-- ---- what the path has

-- of entries that all are the path's
staged_here : (path : Path) (stage : ℕ) (es : List (Option Entry)) → stages_at (staged_from path stage es) path ≡ staged_from path stage es
staged_here path stage [] = refl
staged_here path stage (None ∷ es) = staged_here path (stage + 1) es
staged_here path stage (Some e ∷ es) =
    let rest = staged_here path (stage + 1) es in rw (same_path path) (ap (λ (ds : List IndexEntry). record { path = path; stage = stage; mode = e.mode; id = e.id } ∷ ds) rest)

staged_nowhere_else : (path : Path) (stage : ℕ) (es : List (Option Entry)) → others_of (staged_from path stage es) path ≡ []
staged_nowhere_else path stage [] = refl
staged_nowhere_else path stage (None ∷ es) = staged_nowhere_else path (stage + 1) es
staged_nowhere_else path stage (Some e ∷ es) = let rest = staged_nowhere_else path (stage + 1) es in rw (same_path path) rest

none_of_others : (es : List IndexEntry) (path : Path) → stages_at (others_of es path) path ≡ []
none_of_others [] path = refl
none_of_others (e ∷ es) path = at (bytes_eq e.path path) refl (none_of_others es path)
  where
    at : (t : Bool) → bytes_eq e.path path ≡ t → stages_at (others_of es path) path ≡ []
        → stages_at (cond (not t) (e ∷ others_of es path) (others_of es path)) path ≡ []
    at true is later = later
    at false is later = rw is later

others_again : (es : List IndexEntry) (path : Path) → others_of (others_of es path) path ≡ others_of es path
others_again [] path = refl
others_again (e ∷ es) path = at (bytes_eq e.path path) refl (others_again es path)
  where
    at : (t : Bool) → bytes_eq e.path path ≡ t → others_of (others_of es path) path ≡ others_of es path
        → others_of (cond (not t) (e ∷ others_of es path) (others_of es path)) path ≡ cond (not t) (e ∷ others_of es path) (others_of es path)
    at true is later = later
    at false is later = rw is (ap (λ (ds : List IndexEntry). e ∷ ds) later)

-- ---- placed among others

stages_placed : (es new : List IndexEntry) (path : Path) → stages_at es path ≡ [] → stages_at new path ≡ new
    → stages_at (placed es path new) path ≡ new
stages_placed [] new path none here = here
stages_placed (e ∷ es) new path none here = at (bytes_eq e.path path) refl none (is_less path e.path) (λ rest. stages_placed es new path rest here)
  where
    at : (t : Bool) → bytes_eq e.path path ≡ t → cond t (e ∷ stages_at es path) (stages_at es path) ≡ [] → (u : Bool)
        → (stages_at es path ≡ [] → stages_at (placed es path new) path ≡ new) → stages_at (cond u (new ++ e ∷ es) (e ∷ placed es path new)) path ≡ new
    at true is rest u later = absurd cc
    at false is rest true later =
        filter-append (λ (d : IndexEntry). bytes_eq d.path path) new (e ∷ es)
        ∙ ap (λ (t : Bool). stages_at new path ++ cond t (e ∷ stages_at es path) (stages_at es path)) is
        ∙ ap (λ (ds : List IndexEntry). stages_at new path ++ ds) rest ∙ append-nil (stages_at new path) ∙ here
    at false is rest false later =
        ap (λ (t : Bool). cond t (e ∷ stages_at (placed es path new) path) (stages_at (placed es path new) path)) is ∙ later rest

others_placed : (es new : List IndexEntry) (path : Path) → others_of new path ≡ [] → others_of (placed es path new) path ≡ others_of es path
others_placed [] new path none = none
others_placed (e ∷ es) new path none = at (is_less path e.path) (others_placed es new path none)
  where
    at : (u : Bool) → others_of (placed es path new) path ≡ others_of es path
        → others_of (cond u (new ++ e ∷ es) (e ∷ placed es path new)) path ≡ others_of (e ∷ es) path
    at true later =
        filter-append (λ (d : IndexEntry). not (bytes_eq d.path path)) new (e ∷ es)
        ∙ ap (λ (ds : List IndexEntry). ds ++ others_of (e ∷ es) path) none
    at false later = ap (λ (ds : List IndexEntry). cond (not (bytes_eq e.path path)) (e ∷ ds) ds) later

pub stages_set : (es : List IndexEntry) (path : Path) (stages : List (Option Entry))
    → stages_at (with_stages es path stages) path ≡ staged_as path stages
stages_set es path stages = stages_placed (others_of es path) (staged_as path stages) path (none_of_others es path) (staged_here path 0 stages)

pub others_kept : (es : List IndexEntry) (path : Path) (stages : List (Option Entry))
    → others_of (with_stages es path stages) path ≡ others_of es path
others_kept es path stages = others_placed (others_of es path) (staged_as path stages) path (staged_nowhere_else path 0 stages) ∙ others_again es path

-- ---- one stage more

pub staged_more : (path : Path) (stages rest : List (Option Entry)) (stage : ℕ) (e : Option Entry) (now next : List IndexEntry)
    → staged_as path stages ≡ now ++ staged_from path stage rest → 0 < length rest → e ≡ get_or rest 0 e
    → next ≡ now ++ at_stage path stage e → staged_as path stages ≡ next ++ staged_from path (stage + 1) (take (length rest - 1) (drop 1 rest))
staged_more path stages rest stage e now next so_far some first pushed =
    let others = take (length rest - 1) (drop 1 rest) in
    so_far
    ∙ ap (λ (es : List (Option Entry)). now ++ staged_from path stage es) (first_and_others rest e some first)
    ∙ sym (append_assoc now (at_stage path stage e) (staged_from path (stage + 1) others))
    ∙ ap (λ (ds : List IndexEntry). ds ++ staged_from path (stage + 1) others) (sym pushed)

no_stages : (rest : List (Option Entry)) → length rest ≡ 0 → rest ≡ []
no_stages [] h = refl
no_stages (e ∷ es) h = absurd (omega arith)

pub all_staged : (path : Path) (stages rest : List (Option Entry)) (stage : ℕ) (now : List IndexEntry)
    → staged_as path stages ≡ now ++ staged_from path stage rest → length rest ≡ 0 → now ≡ staged_as path stages
all_staged path stages rest stage now so_far none =
    sym (so_far ∙ ap (λ (es : List (Option Entry)). now ++ staged_from path stage es) (no_stages rest none) ∙ append-nil now)

-- ---- entries between a front and the rest

pub turned : (front back new : List IndexEntry) (n : ℕ) → length back ≡ n
    → drop n ((back ++ front) ++ new) ++ take n ((back ++ front) ++ new) ≡ front ++ (new ++ back)
turned front back new n size =
    let split = append_assoc back front new in
    ap (λ (ds : List IndexEntry). drop n ds ++ take n ds) split
    ∙ ap (λ (ds : List IndexEntry). ds ++ take n (back ++ (front ++ new))) (drop_at back (front ++ new) n size)
    ∙ ap (λ (ds : List IndexEntry). (front ++ new) ++ ds) (take_at back (front ++ new) n size)
    ∙ append_assoc front new back
