-- A pick as a whole.
use Rattle.std.proofs.Common.{◌≡◌, ℤ, [], ◌∷◌, Some, Ok, refl, sym, ap, subst, ◌∙◌}
use Rattle.std.specs.FinMap as held
use Rattle.std.specs.List.{AllByRecursion}
use Rattle.hex.specs.Hex.{IsBytes}
use Rattle.ident_text.specs.declared.ident.Ident.{Ident}
use Rattle.ident_text.specs.Idents.{IsIdent, ident_text}
use Rattle.object_text.specs.declared.commit.Commit.{Commit as CommitFields}
use Rattle.object_text.specs.Commits.{IsCommitValue}
use Rattle.seq_base.specs.Ids.{HasIdWidth, IsId}
use Rattle.object_text.specs.Objects.{object_text}
use Rattle.object_text.specs.Store.{object_id}
use Rattle.objects.specs.Named.{commit_named}
use Rattle.ref_store.specs.Moves.{moved_name}
use Rattle.ref_store.proofs.Moving.{moved_is_name}
use Rattle.ref_text.specs.Refs.{head_name}
use Rattle.seq_base.specs.Repository.{object_path}
use Rattle.seq_base.specs.Words.{Id, Text}
use Rattle.seq_base.specs.World.{World}
use Rattle.seq_model.specs.Making.{commit_object, commit_on, committed, switched_to}
use Rattle.seq_model.specs.Pick.{Finding, found}
use Rattle.seq_model.specs.Picked.{Prepared, finished, merge_made, picked, prepared, prepared_from}
use Rattle.seq_outside.specs.Turns.{gives, looks}
use Rattle.seq_outside.specs.declared.env.Env.{Env}
use Rattle.seq_model.specs.declared.denial.Denial.{Denial}
use Rattle.stage_index.specs.Stages.{Entries}
use Rattle.pick_laws.specs.Leaving.{IsMade, Leaves, Pick}
use Rattle.pick_laws.proofs.Turning.{both_are, bound, looked_at, ok_is}
use Rattle.pick_laws.proofs.Putting.{moved, stored}
use Rattle.pick_laws.proofs.Placing.{object_no_log, object_no_ref}
use Rattle.pick_laws.proofs.Committing.{WithCommit, has_value, reads_back, with_commit_is}
use Rattle.pick_laws.proofs.Switching.{few_made, made_is}
use Rattle.pick_laws.proofs.Staying.{head_stays, index_has, tree_has}
use Rattle.pick_laws.proofs.Cleaning.{has_found}
use Rattle.pick_laws.proofs.Heading.{head_has}
use Rattle.pick_laws.proofs.Standing.{nothing_unstaged}

-- who commits at a moment
abbrev pub ident_at : Finding → Text → ℤ → Ident
ident_at finding zone secs = record { name = finding.committer.name; email = finding.committer.email; secs = secs; zone = zone }

-- the commit of what was found, of this tree
abbrev pub commit_of : Finding → Id → Ident → CommitFields
commit_of finding tree ident = commit_on tree finding.head finding.merging.commit (ident_text ident)

-- trees, index, files and message; and then the commit
pub record HasPicked (finding : Finding) (zone : Text) (secs : ℤ) (w : World) (id : Id) (v : World) : Type 0 where
  pub tree : Id
  pub between : World
  pub switched : switched_to finding.merging.index finding.merging.ours finding.merging.map finding.merging.commit.message w ≡ (Ok tree, between)
  pub with : WithCommit finding.on finding.head (commit_of finding tree (ident_at finding zone secs)) (ident_text (ident_at finding zone secs)) between id v

pub picked_is : (env : Env) (secs : ℤ) (word : Text) (w : World) (finding : Finding) (id : Id) (v : World) → found env.vars word w ≡ Ok finding
    → picked env secs word w ≡ (Ok id, v) → HasPicked finding env.zone secs w id v
unfolding picked prepared prepared_from merge_made finished committed
picked_is env secs word w finding id v is e =
    let one = bound (prepared env.vars word) (λ pick. finished pick env.zone secs) w id v e in
    let two = bound (looks (found env.vars word)) prepared_from w one.given one.between one.first in
    let read = looked_at (found env.vars word w) w two.given two.between two.first in
    let here : two.given ≡ finding = ok_is two.given finding (sym read.0 ∙ is) in
    let made : prepared_from finding w ≡ (Ok one.given, one.between) = ap (λ (f : Finding). prepared_from f w) (sym here) ∙ ap (prepared_from two.given) read.1 ∙ two.then in
    let three = bound (merge_made finding.merging) (λ tree. gives (record { on = finding.on; head = finding.head; committer = finding.committer; commit = finding.merging.commit; tree = tree })) w one.given one.between made in
    let same = both_are {E = Denial} (record { on = finding.on; head = finding.head; committer = finding.committer; commit = finding.merging.commit; tree = three.given }) one.given three.between one.between three.then in
    let end : finished (record { on = finding.on; head = finding.head; committer = finding.committer; commit = finding.merging.commit; tree = three.given }) env.zone secs three.between ≡ (Ok id, v) =
    ap (λ (t : Prepared × World). finished t.0 env.zone secs t.1) same ∙ one.then in
    record {
      tree = three.given;
      between = three.between;
      switched = three.first;
      with =
          with_commit_is finding.on finding.head (commit_of finding three.given (ident_at finding env.zone secs)) (ident_text (ident_at finding env.zone secs)) three.between id v end;
    }

widths_of : (es : Entries) → AllByRecursion (λ e. IsId e.1.id) es → AllByRecursion (λ e. HasIdWidth e.1.id) es
widths_of [] ids = tt
widths_of (e ∷ es) ids = (ids.0.1, widths_of es ids.1)

bytes_of : (es : Entries) → AllByRecursion (λ e. IsId e.1.id) es → AllByRecursion (λ e. IsBytes e.1.id) es
bytes_of [] ids = tt
bytes_of (e ∷ es) ids = (ids.0.0, bytes_of es ids.1)

pub leaves : (env : Env) (word : Text) (pick : Pick) (id : Id) → IsMade env word pick id → Leaves pick.new pick.finding id
leaves env word pick id is_made =
    let w = pick.old in
    let v = pick.new in
    let secs = pick.secs in
    let finding = pick.finding in
    let sound = is_made.sound in
    let p = picked_is env secs word w finding id v is_made.finds is_made.picks in
    let merging = finding.merging in
    let ident = ident_at finding env.zone secs in
    let c = commit_of finding p.tree ident in
    let made = made_is merging.index merging.ours merging.map merging.commit.message w p.tree p.between p.switched in
    let few = few_made merging.index merging.ours merging.map merging.commit.message w p.tree p.between p.switched in
    let who : IsIdent ident (ident_text ident) = record { value = record { name = sound.name; email = sound.email; zone = is_made.zone }; fits = is_made.moment; text_is = refl } in
    let value : IsCommitValue c = record { author = sound.commit.author; committer = (ident, who); encoding = sound.commit.encoding } in
    let s = stored (commit_object c) p.between id p.with.between p.with.put in
    let name = moved_is_name finding.on sound.on in
    let m = moved finding.on id _ p.with.between v name p.with.move in
    let there = has_found env.vars word w finding is_made.finds in
    let tree : IsId p.tree = subst IsId (sym made.trees.root) is_made.tree_id in
    let file : held.get v (object_path id) ≡ Some (object_text (commit_object c)) = m.elsewhere (object_path id) (object_no_ref id (moved_name finding.on) name) (object_no_log id (moved_name finding.on)) (object_no_log id head_name) ∙ s.file in
    let own : held.get v (object_path (object_id (commit_object c))) ≡ Some (object_text (commit_object c)) = subst (λ (i : Id). held.get v (object_path i) ≡ Some (object_text (commit_object c))) s.id_is file in
    let value_is = has_value v (moved_name finding.on) id is_made.commit_id m.file in
    record {
      head =
          head_has finding.on w p.with.between v id _ _ sound.on is_made.commit_id there.on (head_stays finding.on finding.head c (ident_text ident) merging.index merging.map merging.commit.message w p.tree id p.between v name sound.paths made p.with) p.with.move value_is m.file;
      value = value_is;
      commit = c;
      reads = subst (λ (i : Id). commit_named v i ≡ Ok c) (sym s.id_is) (reads_back v c finding.head value tree sound.head refl s.within own);
      parent = refl;
      author = refl;
      message = refl;
      tree =
          tree_has finding.on finding.head c (ident_text ident) merging.index merging.map merging.commit.message w p.tree id p.between v name sound.paths made p.with sound.map (widths_of merging.map sound.ids);
      index =
          index_has finding.on finding.head c (ident_text ident) merging.index merging.map merging.commit.message w p.tree id p.between v name sound.paths made p.with sound.map few (widths_of merging.map sound.ids) (bytes_of merging.map sound.ids);
      unstaged =
          nothing_unstaged finding.on finding.head c (ident_text ident) merging.index merging.map merging.commit.message w p.tree id p.between v name sound.paths made p.with sound.map sound.order there.clean;
    }
