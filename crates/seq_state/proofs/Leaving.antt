-- What the writes of a stop and of an end leave.
use Rattle.std.proofs.Common.{◌≡◌, ◌⊎◌, inl, inr, ℕ, ◌+◌, ◌-◌, ◌<◌, Bool, true, false, cond, not, List, [], ◌∷◌, ◌++◌, length, take, Option, Some, None, Result, Ok, Err, refl, sym, ap, ◌∙◌, length-append, arith}
use Rattle.std.specs.Prelude.{◌&&◌, ◌||◌, codes, filter}
use Rattle.std.specs.Cmp.Lexicographic.{nat_list_cmp_total}
use Rattle.std.specs.FinMap as map
use Rattle.std.specs.FinMap.{get-insert, get-retain_keys, nat_cmp-IsAntisymmetric, slice_cmp-IsAntisymmetric}
use Rattle.std.specs.List.{list_all, list_any}
use Rattle.message_text.specs.Chain.{kept_text}
use Rattle.message_text.specs.declared.chain.ChainItem.{ChainItem}
use Rattle.object_text.specs.Commits.{line as line_text}
use Rattle.seq_base.specs.StatePaths.{is_state_path}
use Rattle.seq_base.specs.Words.{Path, Text}
use Rattle.seq_base.specs.World.{World}
use Rattle.seq_base.proofs.Shape.{same_path}
use Rattle.seq_outside.proofs.Drafts.{get_after, same_world, written-append}
use Rattle.seq_outside.specs.declared.lack.Lack.{Lack}
use Rattle.seq_outside.specs.declared.write.Write.{Write}
use Rattle.seq_outside.specs.declared.write.Write.TheVariants.{Remove}
use Rattle.seq_outside.specs.Writes.{written}
use Rattle.state_text.specs.declared.control.Control.{Control}
use Rattle.state_text.specs.declared.state_file.StateFile.{StateFile}
use Rattle.state_text.specs.declared.verb.Verb.{Verb}
use Rattle.state_text.specs.declared.verb.Verb.TheVariants.{Rebase, CherryPick, Revert}
use Rattle.state_text.specs.Places.{files_of, in_step_path, state_path}
use Rattle.state_text.specs.States.{files_among, state_files, with_file}
use Rattle.state_text.specs.Stops.{behind_end, behind_stop, end_writes, has_file, is_listed, is_path, is_stale, last_paths, put_all, remove_all, said_by, stop_writes}
use Rattle.state_text.specs.Texts.{text_in}
use Rattle.state_text.specs.Words.{verb_word}
use Rattle.state_text.proofs.StopLaws.{end_behind, stop_behind, stop_in_step}
use Rattle.reading.proofs.Files.{files_are_kept}
use Rattle.reading.specs.State.{begun, chain_files, chain_items, is_edited, is_list_file, with_state, without_files}
use Rattle.seq_state.specs.Found.{AreStopWrites, HoldsListFiles, HoldsStateFiles, without_last}
use Rattle.seq_state.proofs.Listing.{chosen_listed}

-- ---- paths

-- a path that fails where all listed ones pass
unlisted : (test : Path → Bool) (ps : List Path) (q : Path) → ((p : Path) → is_listed ps p ≡ true → test p ≡ true) → test q ≡ false
    → is_listed ps q ≡ false
unlisted test ps q only off = at (is_listed ps q) refl
  where
    at : (b : Bool) → is_listed ps q ≡ b → b ≡ false
    at true is = sym (only q is) ∙ off
    at false is = refl

apart : (test : Path → Bool) (ps : List Path) → list_all test ps ≡ true → (q : Path) → test q ≡ false → is_listed ps q ≡ false
apart test [] all q off = refl
apart test (p ∷ ps) all q off = at (is_path q p) refl (test p) refl (λ rest. apart test ps rest q off) all
  where
    at : (same : Bool) → is_path q p ≡ same → (b : Bool) → test p ≡ b → (list_all test ps ≡ true → is_listed ps q ≡ false)
        → (b && list_all test ps) ≡ true → (same || is_listed ps q) ≡ false
    at true are true is later all = sym (ap test (same_path q p are) ∙ is) ∙ off
    at true are false is later all = sym all
    at false are true is later all = later all
    at false are false is later all = absurd cc

-- ---- the end

kept_at : (w : World) (keeps : Path → Bool) (path : Path) → map.get (map.retain_keys w keeps) path ≡ cond (keeps path) (map.get w path) None
kept_at w keeps path =
    get-retain_keys w keeps path (λ other same. ap keeps (sym (slice_cmp-IsAntisymmetric nat_cmp-IsAntisymmetric path other same)))

step_is : (v : Verb) → list_all is_state_path (in_step_path v ∷ []) ≡ true
step_is Rebase = refl
step_is CherryPick = refl
step_is Revert = refl

last_are : (v : Verb) → list_all is_state_path (last_paths v) ≡ true
last_are Rebase = refl
last_are CherryPick = refl
last_are Revert = refl

or_none : (b : Bool) → (b || false) ≡ b
or_none true = refl
or_none false = refl

all_gone : (here last there : Bool) (o : Option Text) → (there ≡ true) ⊎ (o ≡ None) → cond here None (cond last None (cond there None o)) ≡ None
all_gone true last there o is = refl
all_gone false true there o is = refl
all_gone false false there o (inl so) = ap (λ (b : Bool). cond b None o) so
all_gone false false true o (inr none) = refl
all_gone false false false o (inr none) = none

pub end_is : (v : Verb) (w : World) (paths : List Path) → HoldsStateFiles w paths → written w (end_writes v paths) ≡ without_files w
end_is v w paths found =
    same_world (written w (end_writes v paths)) (without_files w)
    (λ q. end_behind v paths w q ∙ at q (is_state_path q) refl ∙ sym (kept_at w (λ path. not (is_state_path path)) q))
  where
    at : (q : Path) (b : Bool) → is_state_path q ≡ b → behind_end v paths w q ≡ cond (not (is_state_path q)) (map.get w q) None
    at q true is =
        all_gone (is_path q (in_step_path v)) (is_listed (last_paths v) q) (is_listed paths q) (map.get w q) (found.holds q is)
        ∙ sym (ap (λ (b : Bool). cond (not b) (map.get w q) None) is)
    at q false is =
        let step : is_path q (in_step_path v) ≡ false = sym (or_none (is_path q (in_step_path v))) ∙ apart is_state_path (in_step_path v ∷ []) (step_is v) q is in
        let last : is_listed (last_paths v) q ≡ false = apart is_state_path (last_paths v) (last_are v) q is in
        let there : is_listed paths q ≡ false = unlisted is_state_path paths q found.only is in
        ap (λ (b : Bool). cond b None (cond (is_listed (last_paths v) q) None (cond (is_listed paths q) None (map.get w q)))) step
        ∙ ap (λ (b : Bool). cond b None (cond (is_listed paths q) None (map.get w q))) last
        ∙ ap (λ (b : Bool). cond b None (map.get w q)) there ∙ sym (ap (λ (b : Bool). cond (not b) (map.get w q) None) is)

-- ---- the files of a stop

said_any : (all : List (Path × Text)) (q : Path) (a b : Option Text) → has_file all q ≡ true → said_by a all q ≡ said_by b all q
said_any [] q a b has = absurd cc
said_any (f ∷ all) q a b has = at (is_path q f.0) (said_any all q a b) has
  where
    at : (t : Bool) → (has_file all q ≡ true → said_by a all q ≡ said_by b all q) → (t || has_file all q) ≡ true
        → said_by (cond t (Some f.1) a) all q ≡ said_by (cond t (Some f.1) b) all q
    at true later has = refl
    at false later has = later has

said_none : (all : List (Path × Text)) (q : Path) (before : Option Text) → has_file all q ≡ false → said_by before all q ≡ before
said_none [] q before none = refl
said_none (f ∷ all) q before none = at (is_path q f.0) (said_none all q before) none
  where
    at : (t : Bool) → (has_file all q ≡ false → said_by before all q ≡ before) → (t || has_file all q) ≡ false
        → said_by (cond t (Some f.1) before) all q ≡ before
    at true later none = absurd cc
    at false later none = later none

has_neither : (xs ys : List (Path × Text)) (q : Path) → has_file xs q ≡ false → has_file ys q ≡ false → has_file (xs ++ ys) q ≡ false
has_neither [] ys q none other = other
has_neither (x ∷ xs) ys q none other = at (is_path q x.0) (λ rest. has_neither xs ys q rest other) none
  where
    at : (t : Bool) → (has_file xs q ≡ false → has_file (xs ++ ys) q ≡ false) → (t || has_file xs q) ≡ false → (t || has_file (xs ++ ys) q) ≡ false
    at true later none = absurd cc
    at false later none = later none

none_among : (k : Control) (q : Path) (fs : List StateFile) → list_any (λ f. is_path q (state_path k.verb f)) fs ≡ false → has_file (files_among fs k) q ≡ false
none_among k q [] none = refl
none_among k q (f ∷ fs) none = at (is_path q (state_path k.verb f)) refl (text_in f k) (none_among k q fs) none
  where
    at : (t : Bool) → is_path q (state_path k.verb f) ≡ t → (o : Option Text)
        → (list_any (λ g. is_path q (state_path k.verb g)) fs ≡ false → has_file (files_among fs k) q ≡ false)
        → (t || list_any (λ g. is_path q (state_path k.verb g)) fs) ≡ false
        → has_file (with_file (state_path k.verb f) o (files_among fs k)) q ≡ false
    at true is o later none = absurd cc
    at false is None later none = later none
    at false is (Some text) later none = ap (λ (b : Bool). b || has_file (files_among fs k) q) is ∙ later none

no_step : (v : Verb) → list_any (λ f. is_path (in_step_path v) (state_path v f)) (files_of v) ≡ false
no_step Rebase = refl
no_step CherryPick = refl
no_step Revert = refl

files_off : (k : Control) → has_file (state_files k) (in_step_path k.verb) ≡ false
unfolding state_files
files_off k = none_among k (in_step_path k.verb) (files_of k.verb) (no_step k.verb)

kept_off : (v : Verb) (b : Bool) (text : Text) → has_file (cond b [] ((codes ".git/rebase-merge/message-fixup", text) ∷ [])) (in_step_path v) ≡ false
kept_off v true text = refl
kept_off Rebase false text = refl
kept_off CherryPick false text = refl
kept_off Revert false text = refl

chain_off : (v : Verb) (r : Result (List ChainItem) Lack) → has_file (chain_files r) (in_step_path v) ≡ false
chain_off v (Err lack) = refl
chain_off v (Ok []) = refl
chain_off Rebase (Ok (item ∷ items)) = kept_off Rebase (list_any (λ (item : ChainItem). is_edited item.kind) (item ∷ items)) (kept_text (item ∷ items))
chain_off CherryPick (Ok (item ∷ items)) = kept_off CherryPick (list_any (λ (item : ChainItem). is_edited item.kind) (item ∷ items)) (kept_text (item ∷ items))
chain_off Revert (Ok (item ∷ items)) = kept_off Revert (list_any (λ (item : ChainItem). is_edited item.kind) (item ∷ items)) (kept_text (item ∷ items))

-- ---- a stop

step_listed : (v : Verb) → is_list_file (in_step_path v) ≡ true
step_listed Rebase = refl
step_listed CherryPick = refl
step_listed Revert = refl

module _ (k : Control) (w : World) (paths : List Path) (found : HoldsListFiles w paths) where
  abbrev all : List (Path × Text)
  all = state_files k ++ chain_files (chain_items w k.chain)

  abbrev step : Path
  step = in_step_path k.verb

  abbrev gone : Path → Bool
  gone q = is_listed (filter (is_stale k.verb all) paths) q

  no_file_step : has_file all step ≡ false
  no_file_step = has_neither (state_files k) (chain_files (chain_items w k.chain)) step (files_off k) (chain_off k.verb (chain_items w k.chain))

  abbrev kept : Path → Option Text
  kept q = said_by (cond (is_list_file q) None (map.get w q)) all q

  -- a path but that of `in-step`
  other_is : (q : Path) → is_path q step ≡ false → cond (gone q) None (said_by (map.get w q) all q) ≡ kept q
  other_is q off = ap (λ (b : Bool). cond b None (said_by (map.get w q) all q)) (chosen_listed (is_stale k.verb all) paths q) ∙ at (is_list_file q) refl
    where
      held : (has listed : Bool) → has_file all q ≡ has → (listed ≡ true) ⊎ (map.get w q ≡ None)
          → cond ((not has && not false) && listed) None (said_by (map.get w q) all q) ≡ said_by None all q
      held true listed has is = said_any all q (map.get w q) None has
      held false true has is = sym (said_none all q None has)
      held false false has (inl so) = absurd cc
      held false false has (inr none) = ap (λ (before : Option Text). said_by before all q) none

      stale : (has : Bool) → has_file all q ≡ has → is_stale k.verb all q ≡ (not has && not false)
      stale has e = ap (λ (b : Bool). not b && not (is_path q step)) e ∙ ap (λ (b : Bool). not has && not b) off

      fails : (b : Bool) → (b && false) ≡ false
      fails true = refl
      fails false = refl

      at : (b : Bool) → is_list_file q ≡ b → cond (is_stale k.verb all q && is_listed paths q) None (said_by (map.get w q) all q) ≡ kept q
      at true is =
          ap (λ (b : Bool). cond (b && is_listed paths q) None (said_by (map.get w q) all q)) (stale (has_file all q) refl)
          ∙ held (has_file all q) (is_listed paths q) refl (found.holds q is)
          ∙ sym (ap (λ (b : Bool). said_by (cond b None (map.get w q)) all q) is)
      at false is =
          let none : is_listed paths q ≡ false = unlisted is_list_file paths q found.only is in
          ap (λ (b : Bool). cond (is_stale k.verb all q && b) None (said_by (map.get w q) all q)) none
          ∙ ap (λ (b : Bool). cond b None (said_by (map.get w q) all q)) (fails (is_stale k.verb all q))
          ∙ sym (ap (λ (b : Bool). said_by (cond b None (map.get w q)) all q) is)

  -- at that of `in-step` nothing is kept
  step_kept : (q : Path) → is_path q step ≡ true → kept q ≡ None
  step_kept q here =
      let same : q ≡ step = same_path q step here in
      let listed : is_list_file q ≡ true = ap is_list_file same ∙ step_listed k.verb in
      ap (λ (b : Bool). said_by (cond b None (map.get w q)) all q) listed
      ∙ said_none all q None (ap (has_file all) same ∙ no_file_step)

  stop_at : (q : Path) → behind_stop k.verb all paths w q ≡ kept q
  stop_at q = at (is_path q step) refl
    where
      at : (b : Bool) → is_path q step ≡ b → cond b None (cond (gone q) None (said_by (map.get w q) all q)) ≡ kept q
      at true is = sym (step_kept q is)
      at false is = other_is q is

  pub stop_is : written w (stop_writes k.verb all paths) ≡ with_state k w
  stop_is =
      same_world (written w (stop_writes k.verb all paths)) (with_state k w)
      (λ q. stop_behind k.verb all paths w q ∙ stop_at q ∙ sym (files_are_kept k w q))

  -- ---- a start

  abbrev writes : List Write
  writes = stop_writes k.verb all paths

  abbrev front : List Write
  front = put_all all ++ remove_all (filter (is_stale k.verb all) paths)

  writes_are : writes ≡ front ++ Remove step ∷ []
  writes_are = refl

  but_last : (xs : List Write) (x : Write) → without_last (xs ++ x ∷ []) ≡ xs
  but_last xs x =
      let len : length (xs ++ x ∷ []) ≡ length xs + 1 = length-append xs (x ∷ []) in
      let same : length (xs ++ x ∷ []) - 1 ≡ length xs = omega (arith, len) in
      ap (λ (n : ℕ). take n (xs ++ x ∷ [])) same ∙ taken xs
    where
      taken : (ys : List Write) → take (length ys) (ys ++ x ∷ []) ≡ ys
      taken [] = refl
      taken (y ∷ ys) = ap (λ (rest : List Write). y ∷ rest) (taken ys)

  last_off : without_last writes ≡ front
  last_off = ap without_last writes_are ∙ but_last front (Remove step)

  module _ (text : Text) where
    abbrev begun_world : World
    begun_world = map.insert w step text

    front_at : (q : Path) (b : Bool) → is_path q step ≡ b → map.get (written begun_world (without_last writes)) q ≡ cond b (Some text) (kept q)
    front_at q true here =
        let shorter : length writes - 1 < length writes = some_length in
        ap (map.get (written begun_world (without_last writes))) (same_path q step here)
        ∙ stop_in_step k.verb all paths begun_world no_file_step (length writes - 1) shorter
        ∙ ap (map.get begun_world) (sym (same_path q step here))
        ∙ get-insert nat_list_cmp_total w step text q ∙ ap (λ (b : Bool). cond b (Some text) (map.get w q)) here
      where
        some_length : length writes - 1 < length writes
        some_length =
            let are : length writes ≡ length front + 1 = ap length writes_are ∙ length-append front (Remove step ∷ []) in
            omega (arith, are)
    front_at q false off =
        let v = written begun_world front in
        ap (λ (ws : List Write). map.get (written begun_world ws) q) last_off
        ∙ sym (get_after v (Remove step) q ∙ ap (λ (b : Bool). cond b None (map.get v q)) off)
        ∙ ap (λ (u : World). map.get u q) (sym (ap (written begun_world) writes_are ∙ written-append begun_world front (Remove step ∷ [])))
        ∙ stop_behind k.verb all paths begun_world q
        ∙ ap (λ (b : Bool). cond b None (cond (gone q) None (said_by (map.get begun_world q) all q))) off
        ∙ ap (λ (o : Option Text). cond (gone q) None (said_by o all q))
        (get-insert nat_list_cmp_total w step text q ∙ ap (λ (b : Bool). cond b (Some text) (map.get w q)) off)
        ∙ other_is q off

    start_is : written begun_world (without_last writes) ≡ map.insert (with_state k w) step text
    start_is =
        same_world (written begun_world (without_last writes)) (map.insert (with_state k w) step text)
        (λ q. front_at q (is_path q step) refl ∙ ap (cond (is_path q step) (Some text)) (sym (files_are_kept k w q))
        ∙ sym (get-insert nat_list_cmp_total (with_state k w) step text q))

pub state_put : (k : Control) (w : World) (writes : List Write) → AreStopWrites k w writes → written w writes ≡ with_state k w
state_put k w writes made = ap (written w) made.are ∙ stop_is k w made.paths made.found

pub state_begun : (k : Control) (w : World) (writes : List Write) → AreStopWrites k w writes
    → written (begun k w) (without_last writes) ≡ begun k (with_state k w)
unfolding begun
state_begun k w writes made =
    ap (λ (ws : List Write). written (map.insert w (in_step_path k.verb) (line_text (verb_word k.verb))) (without_last ws)) made.are
    ∙ start_is k w made.paths made.found (line_text (verb_word k.verb))
