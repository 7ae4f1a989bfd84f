-- HEAD's commit is read without the files of a list.
use Rattle.std.proofs.Common.{◌≡◌, ℕ, zero, suc, ◌&&◌, cond, Bool, true, false, codes, drop, take, nat_eq}
use Rattle.std.proofs.Common.{option_map, Option, Some, None, Result, refl, sym, ap, subst}
use Rattle.std.proofs.Math.Path.{fun_ext}
use Rattle.std.specs.FinMap as file
use Rattle.std.specs.List.{starts_with}
use Rattle.std.specs.Str.{bytes_eq}
use Rattle.ref_store.specs.Values.{end_at, end_within, file_head, followed, goes_on, head_at, head_end, head_file, head_text}
use Rattle.ref_store.specs.Values.{packed_at, packed_value_at, settled, value_at}
use Rattle.ref_store.specs.declared.fault.RefFault.{RefFault}
use Rattle.ref_store.specs.declared.fault.RefFault.TheVariants.{BadHead, BadRef}
use Rattle.ref_text.specs.ReadHeads.{file_of, head_in, head_of, head_on, id_in, is_loose_end, line_length, loose_of}
use Rattle.ref_text.specs.Refs.{head_name, packed_path, ref_path}
use Rattle.ref_text.specs.declared.head.Head.{Head}
use Rattle.ref_text.specs.declared.head.Head.TheVariants.{Branch, Detached}
use Rattle.seq_base.proofs.RefPaths.{behind_front, below_refs, each_name}
use Rattle.seq_base.specs.RefNames.{IsRefName, is_below_refs, is_ref_name}
use Rattle.seq_base.specs.Words.{Id, Name, Text}
use Rattle.seq_base.specs.World.{World}
use Rattle.seq_outside.specs.Halts.{◌>>=◌, or_stop}
use Rattle.reading.specs.Apart.{Alike, ReadsApart}
use Rattle.line_steps.specs.Heads.{head_found}
use Rattle.reading.specs.State.{is_list_file}

-- ---- a ref leads to a ref

abbrev name_in : Option Head → Name
name_in None = codes ""
name_in (Some (Detached id)) = id
name_in (Some (Branch name)) = name

no_branch : (id : Option Id) (other : Name) → option_map Detached id ≡ Some (Branch other) → IsRefName other
no_branch None other h = cc
no_branch (Some id) other h = cc

line_named : (begins named : Bool) (line other : Text) → is_ref_name (drop 5 line) ≡ named
    → head_on line (cond (begins && named) (Some (drop 5 line)) None) ≡ Some (Branch other) → IsRefName other
line_named true true line other is h = subst IsRefName (ap name_in h) is
line_named true false line other is h = no_branch (id_in line) other h
line_named false named line other is h = no_branch (id_in line) other h

in_named : (line other : Text) → head_in line ≡ Some (Branch other) → IsRefName other
unfolding head_in
in_named line other h = line_named (starts_with nat_eq line (codes "ref: ")) (is_ref_name (drop 5 line)) line other refl h

if_named : (c : Bool) (line other : Text) → cond c (head_in line) None ≡ Some (Branch other) → IsRefName other
if_named true line other h = in_named line other h
if_named false line other h = cc

head_named : (text other : Text) → head_of text ≡ Some (Branch other) → IsRefName other
unfolding head_of
head_named text other h = if_named (bytes_eq (drop (line_length text) text) (codes "\n")) (take (line_length text) text) other h

loose_named : (text other : Text) → loose_of text ≡ Some (Branch other) → IsRefName other
unfolding loose_of
loose_named text other h = if_named (is_loose_end (drop (line_length text) text)) (take (line_length text) text) other h

either_named : (c : Bool) (text other : Text) → cond c (head_of text) (loose_of text) ≡ Some (Branch other) → IsRefName other
either_named true text other h = head_named text other h
either_named false text other h = loose_named text other h

file_named : (name text other : Text) → file_of name text ≡ Some (Branch other) → IsRefName other
file_named name text other h = either_named (bytes_eq name head_name) text other h

-- ---- a ref's file is none of a list

below_file : (name : Name) → is_below_refs name ≡ true → is_list_file (ref_path name) ≡ false
below_file name h =
    let front = behind_front (codes "refs/") name (below_refs name h).begins in
    subst (λ (n : Name). is_list_file (ref_path n) ≡ false) (sym front) refl

ref_file : (name : Name) → IsRefName name → is_list_file (ref_path name) ≡ false
ref_file name is = each_name (λ n. is_list_file (ref_path n) ≡ false) name refl (below_file name) is

-- ---- the value of a name

module _ (a b : World) (alike : Alike a b) where
  packed-apart : (name : Name) → packed_value_at a name ≡ packed_value_at b name
  unfolding packed_value_at packed_at
  packed-apart name = rw (alike packed_path refl) refl

  -- what a file says leads to the same
  goes-apart : (bad : RefFault) (on_a on_b : Name → Result Head RefFault) (found : Option Head)
      → ((other : Name) → found ≡ Some (Branch other) → on_a other ≡ on_b other)
      → (or_stop found bad >>= goes_on on_a) ≡ (or_stop found bad >>= goes_on on_b)
  goes-apart bad on_a on_b None same = refl
  goes-apart bad on_a on_b (Some (Detached id)) same = refl
  goes-apart bad on_a on_b (Some (Branch other)) same = same other refl

  followed-apart : (on_a on_b : Name → Result Head RefFault) (name : Name) (text : Option Text)
      → ((other : Name) → IsRefName other → on_a other ≡ on_b other) → followed on_a name text ≡ followed on_b name text
  unfolding file_head
  followed-apart on_a on_b name None same = refl
  followed-apart on_a on_b name (Some text) same =
      goes-apart (BadRef name) on_a on_b (file_of name text) (λ other is. same other (file_named name text other is))

  within-apart : (n : ℕ) (from name : Name) → IsRefName name → end_within n a from name ≡ end_within n b from name
  unfolding end_within
  within-apart zero from name is = refl
  within-apart (suc n) from name is =
      rw (alike (ref_path name) (ref_file name is))
      (followed-apart (end_within n a name) (end_within n b name) name (file.get b (ref_path name))
      (λ other named. within-apart n name other named))

  led-from : (text : Option Text) → (head_file text >>= goes_on (end_within 5 a head_name)) ≡ (head_file text >>= goes_on (end_within 5 b head_name))
  unfolding head_text
  led-from None = refl
  led-from (Some text) =
      goes-apart BadHead (end_within 5 a head_name) (end_within 5 b head_name) (head_of text)
      (λ other is. within-apart 5 head_name other (head_named text other is))

  head-apart : head_end a ≡ head_end b
  unfolding head_end head_at
  head-apart = rw (alike (ref_path head_name) refl) (led-from (file.get b (ref_path head_name)))

  settled-apart : (head : Head) → settled a head ≡ settled b head
  unfolding settled
  settled-apart (Detached id) = refl
  settled-apart (Branch name) = packed-apart name

  head_found-apart : head_found a ≡ head_found b
  unfolding head_found value_at end_at
  head_found-apart =
      let ends : settled a ≡ settled b = fun_ext settled-apart in
      rw (head-apart, ends) refl

-- HEAD's commit, and that of each ref
pub heads_apart : ReadsApart head_found
heads_apart a b alike = head_found-apart a b alike
