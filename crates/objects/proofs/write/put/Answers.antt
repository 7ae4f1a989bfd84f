use Rattle.std.proofs.Common.{◌≡◌, ◌≤◌, ℕ, List, ◌++◌, length, None, Some, sym, ap, ◌∙◌}
use Rattle.std.specs.FinMap as map
use Rattle.std.specs.Str.{bytes_eq}
use Rattle.sha1.specs.Sha1.{sha1}
use Rattle.object_text.specs.declared.object.Object.{Object}
use Rattle.object_text.specs.Objects.{object_text}
use Rattle.object_text.specs.Store.{content_limit, object_id}
use Rattle.seq_base.specs.Repository.{object_path}
use Rattle.objects.specs.Puts.{object_of}
use Rattle.objects.proofs.Writing.{new_object, pieces, put_elsewhere, put_kept, put_new, put_object_at, put_other, put_same, text_moved}
use Rattle.objects.proofs.write.put.Goals as goal

-- ---- no file stood there

pub returns-in-None-clause-put : goal.returns-in-None-clause-put
returns-in-None-clause-put g c told =
    let w = (g.S.Store.seen c.args.store.now).content in
    let o : Object = object_of c.args.kind c.args.bytes.now in
    let text = ap (λ (h : List ℕ). h ++ c.args.bytes.now) c.in_ok-header.ensures ∙ pieces o in
    let id_is : c.id_of_pieces-id.result ≡ object_id o = c.id_of_pieces-id.ensures ∙ ap sha1 (ap (λ (h : List ℕ). h ++ c.args.bytes.now) c.deref.ensures.value ∙ text) in
    let path : c.in_ok-path.path.items ≡ object_path (object_id o) = c.in_ok-path.ensures.path ∙ ap object_path id_is in
    let absent : map.get w (object_path (object_id o)) ≡ None = sym (ap (map.get w) (c.deref-2.ensures.value ∙ path)) ∙ sym (rw c.in-None.is at (c.in_ok-get.ensures.found told)) in
    let within : length c.args.bytes.now ≤ content_limit = c.if-bytes-gt-CONTENT_LIMIT.false in
    put_new w o c.put_text.result (g.S.Store.seen c.put_text.new.store).content within absent
    (text_moved w (g.S.Store.seen c.get.new.self).content (object_id o) c.id_of_pieces-id.result (object_path (object_id o)) c.in_ok-path.path.items (object_text o) c.deref-in-None.result.now c.put_text.result (g.S.Store.seen c.put_text.new.store).content
    (c.in_ok-get.ensures.reads.0 told) id_is path (c.deref-in-None.ensures.value ∙ (c.in_ok-extend_from_slice-in-None.ensures.items ∙ text)) (c.put_text.ensures.put told))

pub returns-in-None-clause-object : goal.returns-in-None-clause-object
returns-in-None-clause-object g c told =
    new_object (g.S.Store.seen c.args.store.now).content (object_of c.args.kind c.args.bytes.now) c.put_text.result (g.S.Store.seen c.put_text.new.store).content (returns-in-None-clause-put g c told)

pub returns-in-None-clause-elsewhere : goal.returns-in-None-clause-elsewhere
returns-in-None-clause-elsewhere g c told =
    put_elsewhere (g.S.Store.seen c.args.store.now).content (object_of c.args.kind c.args.bytes.now) c.put_text.result (g.S.Store.seen c.put_text.new.store).content (returns-in-None-clause-put g c told)

-- ---- bytes stood there

pub returns-then-is_same-clause-put : goal.returns-then-is_same-clause-put
returns-then-is_same-clause-put g c told =
    let w = (g.S.Store.seen c.args.store.now).content in
    let o : Object = object_of c.args.kind c.args.bytes.now in
    let text = ap (λ (h : List ℕ). h ++ c.args.bytes.now) c.in_ok-header.ensures ∙ pieces o in
    let id_is : c.id_of_pieces-id.result ≡ object_id o = c.id_of_pieces-id.ensures ∙ ap sha1 (ap (λ (h : List ℕ). h ++ c.args.bytes.now) c.deref.ensures.value ∙ text) in
    let path : c.in_ok-path.path.items ≡ object_path (object_id o) = c.in_ok-path.ensures.path ∙ ap object_path id_is in
    let within : length c.args.bytes.now ≤ content_limit = c.if-bytes-gt-CONTENT_LIMIT.false in
    let found = rw c.in-Some.is at (c.in_ok-get.ensures.found told) in
    let held : map.get w (object_path (object_id o)) ≡ Some c.in-Some.kept.items = sym (ap (map.get w) (c.deref-2.ensures.value ∙ path)) ∙ sym found in
    let same_test : c.is_same.result ≡ bytes_eq c.in-Some.kept.items (object_text o) = c.is_same.ensures ∙ (ap (λ (k : List ℕ). bytes_eq k (c.deref-in-Some-2.result.now ++ c.args.bytes.now)) c.deref-in-Some.ensures.value ∙ ap (bytes_eq c.in-Some.kept.items) (ap (λ (h : List ℕ). h ++ c.args.bytes.now) c.deref-in-Some-2.ensures.value ∙ text)) in
    put_same w o c.id_of_pieces-id.result c.in-Some.kept.items (g.S.Store.seen c.get.new.self).content id_is within held (sym same_test ∙ c.if-is_same.true) (c.in_ok-get.ensures.reads.0 told)

pub returns-then-is_same-clause-object : goal.returns-then-is_same-clause-object
returns-then-is_same-clause-object g c told =
    put_object_at (g.S.Store.seen c.args.store.now).content (object_of c.args.kind c.args.bytes.now) c.id_of_pieces-id.result (g.S.Store.seen c.get.new.self).content (returns-then-is_same-clause-put g c told)

pub returns-clause-put : goal.returns-clause-put
returns-clause-put g c told =
    let w = (g.S.Store.seen c.args.store.now).content in
    let o : Object = object_of c.args.kind c.args.bytes.now in
    let text = ap (λ (h : List ℕ). h ++ c.args.bytes.now) c.in_ok-header.ensures ∙ pieces o in
    let id_is : c.id_of_pieces-id.result ≡ object_id o = c.id_of_pieces-id.ensures ∙ ap sha1 (ap (λ (h : List ℕ). h ++ c.args.bytes.now) c.deref.ensures.value ∙ text) in
    let path : c.in_ok-path.path.items ≡ object_path (object_id o) = c.in_ok-path.ensures.path ∙ ap object_path id_is in
    let within : length c.args.bytes.now ≤ content_limit = c.if-bytes-gt-CONTENT_LIMIT.false in
    let found = rw c.in-Some.is at (c.in_ok-get.ensures.found told) in
    let held : map.get w (object_path (object_id o)) ≡ Some c.in-Some.kept.items = sym (ap (map.get w) (c.deref-2.ensures.value ∙ path)) ∙ sym found in
    let same_test : c.is_same.result ≡ bytes_eq c.in-Some.kept.items (object_text o) = c.is_same.ensures ∙ (ap (λ (k : List ℕ). bytes_eq k (c.deref-in-Some-2.result.now ++ c.args.bytes.now)) c.deref-in-Some.ensures.value ∙ ap (bytes_eq c.in-Some.kept.items) (ap (λ (h : List ℕ). h ++ c.args.bytes.now) c.deref-in-Some-2.ensures.value ∙ text)) in
    put_other w o c.id_of_pieces-id.result c.in-Some.kept.items (g.S.Store.seen c.get.new.self).content c.other_kept.result (put_kept w o c.id_of_pieces-id.result c.in-Some.kept.items (g.S.Store.seen c.get.new.self).content id_is within held (sym same_test ∙ c.if-is_same.false) (c.in_ok-get.ensures.reads.0 told)) c.other_kept.ensures
