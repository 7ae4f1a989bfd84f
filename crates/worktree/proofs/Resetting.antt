-- Paths that are given their blobs, as far as they were.
use Rattle.std.proofs.Common.{◌≡◌, ℕ, ◌+◌, ◌-◌, ◌<◌, suc, List, [], ◌∷◌, ◌++◌, length, take, drop, get_or, Ok, Err, refl, sym, ap, ◌∙◌, arith}
use Rattle.std.specs.Prelude.{codes, map}
use Rattle.std.specs.List.{AllByRecursion}
use Rattle.seq_base.specs.StorePaths.{IsStorePath}
use Rattle.seq_base.specs.Words.{Path}
use Rattle.seq_base.specs.World.{World}
use Rattle.seq_base.specs.declared.map.Entry.{Entry}
use Rattle.seq_outside.specs.Halts.{Denies}
use Rattle.seq_outside.specs.Turns.{Turns}
use Rattle.seq_outside.specs.Writes.{HasStorePath}
use Rattle.seq_outside.specs.declared.halt.Halt.{Halt}
use Rattle.seq_outside.specs.declared.halt.Halt.TheVariants.{Stops, Fault, Memory}
use Rattle.seq_outside.specs.declared.lack.Lack.{Lack}
use Rattle.seq_outside.specs.declared.write.Write.{Write}
use Rattle.seq_outside.specs.declared.write.Write.TheVariants.{Put}
use Rattle.seq_outside.proofs.Firsts.{first_and_others}
use Rattle.index_file.specs.declared.entry.IndexEntry.{IndexEntry}
use Rattle.index_file.specs.Index.{indexed}
use Rattle.index_file.specs.Spelling.{index_text}
use Rattle.stage_index.specs.Stages.{Entries, map_of, row_of}
use Rattle.stage_index.specs.Switching.{index_write}
use Rattle.stage_index.proofs.Indexing.{rows_of-indexed}
use Rattle.worktree.specs.ResetTurns.{row_reset, rows_reset}
use Rattle.worktree.specs.Resets.{file_above, files_above, row_readable, rows_readable}

-- the entries are those of their map
pub rows_are_map : (index : List IndexEntry) → index ≡ indexed (map_of index) → map row_of index ≡ map_of index
rows_are_map index is = ap (map row_of) is ∙ rows_of-indexed (map_of index)

no_entries : (rest : List IndexEntry) → length rest ≡ 0 → rest ≡ []
no_entries [] h = refl
no_entries (e ∷ es) h = absurd (omega arith)

-- ---- what can be read

-- the rest can be read exactly where all can
abbrev pub SameReadable : World → List IndexEntry → List IndexEntry → Type 0
SameReadable w all rest = rows_readable w (map row_of rest) ≡ rows_readable w (map_of all)

pub readable_init : (w : World) (all : List IndexEntry) → all ≡ indexed (map_of all) → SameReadable w all all
readable_init w all is = ap (rows_readable w) (rows_are_map all is)

readable_on : (w : World) (e : Path × Entry) (es : Entries) → row_readable w e ≡ Ok tt → rows_readable w (e ∷ es) ≡ rows_readable w es
unfolding rows_readable
readable_on w e es is = rw is refl

unreadable : (w : World) (e : Path × Entry) (es : Entries) (why : Lack) → row_readable w e ≡ Err why → rows_readable w (e ∷ es) ≡ Err why
unfolding rows_readable
unreadable w e es why is = rw is refl

pub readable_more : (w : World) (all rest : List IndexEntry) (e : IndexEntry) → SameReadable w all rest → 0 < length rest → e ≡ get_or rest 0 e
    → row_readable w (row_of e) ≡ Ok tt → SameReadable w all (take (length rest - 1) (drop 1 rest))
readable_more w all rest e same some first is =
    sym (readable_on w (row_of e) (map row_of (take (length rest - 1) (drop 1 rest))) is) ∙ ap (λ (es : List IndexEntry). rows_readable w (map row_of es)) (sym (first_and_others rest e some first)) ∙ same

pub readable_denied : (w : World) (all rest : List IndexEntry) (e : IndexEntry) (halt : Halt Lack) → SameReadable w all rest → 0 < length rest
    → e ≡ get_or rest 0 e → Denies halt (row_readable w (row_of e)) → Denies halt (rows_readable w (map_of all))
readable_denied w all rest e (Stops why) same some first denied =
    sym same ∙ ap (λ (es : List IndexEntry). rows_readable w (map row_of es)) (first_and_others rest e some first) ∙ unreadable w (row_of e) (map row_of (take (length rest - 1) (drop 1 rest))) why denied
readable_denied w all rest e Fault same some first denied = tt
readable_denied w all rest e Memory same some first denied = tt

none_unread : (w : World) → rows_readable w [] ≡ Ok tt
unfolding rows_readable
none_unread w = refl

pub all_readable : (w : World) (all rest : List IndexEntry) → SameReadable w all rest → length rest ≡ 0 → rows_readable w (map_of all) ≡ Ok tt
all_readable w all rest same none = sym same ∙ ap (λ (es : List IndexEntry). rows_readable w (map row_of es)) (no_entries rest none) ∙ none_unread w

-- ---- what was reset

-- from here the rest leaves what all leave from the start
abbrev pub SameReset : World → World → List IndexEntry → List IndexEntry → Type 0
SameReset start now all rest = rows_reset (map row_of rest) now ≡ rows_reset (map_of all) start

pub reset_init : (w : World) (all : List IndexEntry) → all ≡ indexed (map_of all) → SameReset w w all all
reset_init w all is = ap (λ (es : Entries). rows_reset es w) (rows_are_map all is)

reset_on : (now next : World) (e : Path × Entry) (es : Entries) → row_reset e now ≡ (Ok tt, next) → rows_reset (e ∷ es) now ≡ rows_reset es next
unfolding rows_reset
reset_on now next e es is = rw is refl

reset_stops : (now next : World) (e : Path × Entry) (es : Entries) (why : Lack) → row_reset e now ≡ (Err why, next)
    → rows_reset (e ∷ es) now ≡ (Err why, next)
unfolding rows_reset
reset_stops now next e es why is = rw is refl

pub reset_more : (start now next : World) (all rest : List IndexEntry) (e : IndexEntry) → SameReset start now all rest → 0 < length rest
    → e ≡ get_or rest 0 e → row_reset (row_of e) now ≡ (Ok tt, next) → SameReset start next all (take (length rest - 1) (drop 1 rest))
reset_more start now next all rest e same some first is =
    sym (reset_on now next (row_of e) (map row_of (take (length rest - 1) (drop 1 rest))) is) ∙ ap (λ (es : List IndexEntry). rows_reset (map row_of es) now) (sym (first_and_others rest e some first)) ∙ same

pub reset_stopped : (start now next : World) (all rest : List IndexEntry) (e : IndexEntry) (halt : Halt Lack) → SameReset start now all rest
    → 0 < length rest → e ≡ get_or rest 0 e
    → Turns {X = Unit {0}} {Y = Unit {0}} (λ x. x) (Err halt) (row_reset (row_of e) now) next → Turns {X = Unit {0}} {Y = Unit {0}} (λ x. x) (Err halt) (rows_reset (map_of all) start) next
reset_stopped start now next all rest e (Stops why) same some first is =
    sym same ∙ ap (λ (es : List IndexEntry). rows_reset (map row_of es) now) (first_and_others rest e some first) ∙ reset_stops now next (row_of e) (map row_of (take (length rest - 1) (drop 1 rest))) why is
reset_stopped start now next all rest e Fault same some first is = tt
reset_stopped start now next all rest e Memory same some first is = tt

none_reset : (now : World) → rows_reset [] now ≡ (Ok tt, now)
unfolding rows_reset
none_reset now = refl

pub all_reset : (start now : World) (all rest : List IndexEntry) → SameReset start now all rest → length rest ≡ 0
    → rows_reset (map_of all) start ≡ (Ok tt, now)
all_reset start now all rest same none =
    sym same ∙ ap (λ (es : List IndexEntry). rows_reset (map row_of es) now) (no_entries rest none) ∙ none_reset now

-- the index of a map is written
pub index_write_is : (index : List IndexEntry) → index ≡ indexed (map_of index)
    → Put (codes ".git/index") (index_text index) ≡ index_write (map_of index)
index_write_is index is = ap (λ (es : List IndexEntry). Put (codes ".git/index") (index_text es)) is

-- ---- files in the way

pub above_next : (w : World) (path : Path) (n : ℕ) (now next : List Path) → now ≡ files_above w path n → next ≡ now ++ file_above w path n
    → next ≡ files_above w path (n + 1)
above_next w path n now next so_far pushed =
    let k : n + 1 ≡ suc n = omega arith in
    rw k (pushed ∙ ap (λ (ps : List Path). ps ++ file_above w path n) so_far)

pub paths_pushed : (ps : List Path) (p : Path) → AllByRecursion IsStorePath ps → IsStorePath p → AllByRecursion IsStorePath (ps ++ p ∷ [])
paths_pushed [] p all is = (is, tt)
paths_pushed (q ∷ ps) p all is = (all.0, paths_pushed ps p all.1 is)

pub paths_joined : (ps qs : List Path) → AllByRecursion IsStorePath ps → AllByRecursion IsStorePath qs → AllByRecursion IsStorePath (ps ++ qs)
paths_joined [] qs first second = second
paths_joined (p ∷ ps) qs first second = (first.0, paths_joined ps qs first.1 second)

pub writes_pushed : (ws : List Write) (x : Write) → AllByRecursion HasStorePath ws → HasStorePath x → AllByRecursion HasStorePath (ws ++ x ∷ [])
writes_pushed [] x all is = (is, tt)
writes_pushed (w ∷ ws) x all is = (all.0, writes_pushed ws x all.1 is)
