-- Worked examples of images and the stores that they stand for. The bytes were made by a program
-- that shares nothing with these definitions.
use Rattle.std.specs.Prelude.{◌≡◌, ℕ, ◌^◌, Bool, true, false, ◌&&◌, ◌<◌, nat_lt, List, [], ◌∷◌, ◌++◌, length, take, drop, get_or, Option, None, Some, codes}
use Rattle.std.specs.List.{AllByRecursion, list_all}
use Rattle.std.proofs.Common.{◌∙◌, sym, refl, ap, arith, length-append, lit<, lit≤, inl, inr}
use Rattle.std.proofs.lemmas.Bool.{ltb-true, false≢true, true≢false}
use Rattle.send_model.specs.Attribute.{IsBytes}
use Rattle.send_model.specs.Command.{Subvol, Snapshot, MkFile, Write, Unlink, End}
use Rattle.send_model.specs.Reading.{is_version}
use Rattle.send_model.specs.Spelling.{canonical_all, IsSpellable}
use Rattle.send_model.specs.Subvolume.{Inode, Subvolume}
use Rattle.send_model.specs.Provenance.{inode_with}
use Rattle.send_model.specs.Store.{Entry, Store}
use Rattle.store_model.specs.Image.{IsHeader, header_of, usual_header}
use Rattle.store_model.specs.Stored.{is_edit, Content, IsContent, Mark, Body, Drop, Group, number_of, content_bytes, body_bytes, IsGroup, as_bytes, as_places, marked, resumed, unfinished_at, edits_made, dropped, made, made_all, Stands, StandsFor, StandsForNone}
use Rattle.store_model.proofs.OneSaying.{body_one, number_in, sealed_by, plain_by, seal_is}
use Rattle.store_model.proofs.SaidBodies.{parts_of_body}
use Rattle.send_model.proofs.ExampleWords.{hexadecimal, uuid, key, directory, file, one_file, reading_words, composing_words}

-- what groups are computed with
unfoldable pub stored_words : Unit {0}
unfolding reading_words composing_words marked resumed unfinished_at edits_made dropped made made_all
stored_words = tt

-- ---- a new store

unfoldable pub new_image : List ℕ
new_image = hexadecimal (codes "736e6473746f726502000000000000000001000000")

pub usual : IsHeader usual_header
usual = record { format = inr refl; number_fits = lit< tt }

-- stands for no entries
pub new_stands : StandsFor new_image []
unfolding new_image stored_words
new_stands = record {
  header = usual_header;
  groups = [];
  has = record { gate = 0; rest = []; closed = omega arith; bytes = refl; lawful = usual; lengths_fit = tt };
  makes = record { lawful = tt; made = refl };
}

-- ---- one part

-- a Mark
unfoldable pub begin_a : Group
begin_a = record { content = Mark (Subvol (uuid 0x11) 1 (codes "a")); is_sealed = true }

-- and its Body
unfoldable pub edits_of_a : Group
edits_of_a = record { content = Body (uuid 0x11) 1 (MkFile (codes "x") ∷ Write (codes "x") 0 (codes "hi") ∷ []); is_sealed = true }

unfoldable pub mark_bytes : List ℕ
mark_bytes = hexadecimal (codes "736e6473746f726502000000000000000001000001340000000000000004250000000100333343ee01001000111111111111111111111111111111110200080001000000000000000f00010061e4c704a7")

unfoldable pub body_part : List ℕ
body_part = hexadecimal (codes "0146000000000000000511111111111111111111111111111111010500000003002f8a36730f00010078170000000f00437eee5f0f00010078120008000000000000000000130002006869a554a802")

-- what can be said in a version
pub small : (bytes : List ℕ) → list_all (λ b. nat_lt b 256) bytes ≡ true → IsBytes bytes
small [] e = tt
small (b ∷ bytes) e = one (nat_lt b 256) refl e (λ q. small bytes q)
  where
    one : (t : Bool) → nat_lt b 256 ≡ t → t && list_all (λ b. nat_lt b 256) bytes ≡ true → (list_all (λ b. nat_lt b 256) bytes ≡ true → IsBytes bytes) → (b < 256) × IsBytes bytes
    one true q f more = (ltb-true b 256 q, more f)
    one false q f more = absurd (false≢true f)

subvol_spellable : IsSpellable 1 (Subvol (uuid 0x11) 1 (codes "a"))
unfolding stored_words
subvol_spellable = record { known = refl; values = ((refl, small (uuid 0x11) refl), (lit< tt, ((λ e. lit< tt, small (codes "a") refl), tt))); short = lit≤ tt }

mkfile_spellable : IsSpellable 1 (MkFile (codes "x"))
unfolding stored_words
mkfile_spellable = record { known = refl; values = ((λ e. lit< tt, small (codes "x") refl), tt); short = lit≤ tt }

write_spellable : IsSpellable 1 (Write (codes "x") 0 (codes "hi"))
unfolding stored_words
write_spellable = record { known = refl; values = ((λ e. lit< tt, small (codes "x") refl), (lit< tt, ((λ e. lit< tt, small (codes "hi") refl), tt))); short = lit≤ tt }

pub begin_is : (format : ℕ) → IsGroup format begin_a
unfolding begin_a
begin_is format = record { content = subvol_spellable; old = λ e. absurd (true≢false e) }

pub edits_are : (format : ℕ) → IsGroup format edits_of_a
unfolding edits_of_a
edits_are format = record { content = (refl, refl, ((refl, mkfile_spellable), ((refl, write_spellable), tt))); old = λ e. absurd (true≢false e) }

-- their bytes
begin_bytes : 1 ∷ 52 ∷ 0 ∷ 0 ∷ 0 ∷ 0 ∷ 0 ∷ 0 ∷ 0 ∷ body_bytes begin_a ≡ drop 20 mark_bytes
unfolding begin_a mark_bytes stored_words
begin_bytes = refl

edits_bytes : 1 ∷ 70 ∷ 0 ∷ 0 ∷ 0 ∷ 0 ∷ 0 ∷ 0 ∷ 0 ∷ body_bytes edits_of_a ≡ body_part
unfolding edits_of_a body_part stored_words
edits_bytes = refl

unfoldable pub a_with : {S : Type 0} → Option S → Entry S
a_with contents = record { name = codes "a"; key = key 0x11 1; parent = None; contents = contents }

-- the Mark alone begins an entry
mark_stands : StandsFor (mark_bytes ++ 0 ∷ []) (a_with None ∷ [])
unfolding begin_a mark_bytes stored_words a_with
mark_stands = record {
  header = usual_header;
  groups = begin_a ∷ [];
  has = record { gate = 0; rest = []; closed = omega arith; bytes = refl; lawful = usual; lengths_fit = (lit< tt, tt) };
  makes = record { lawful = (begin_is 2, tt); made = refl };
}

-- with its Body it is complete
unfoldable pub a_stands : StandsFor (mark_bytes ++ body_part ++ 0 ∷ []) (a_with (Some (one_file (codes "hi") (codes "x" ∷ []))) ∷ [])
unfolding begin_a edits_of_a mark_bytes body_part stored_words a_with
a_stands = record {
  header = usual_header;
  groups = begin_a ∷ edits_of_a ∷ [];
  has = record { gate = 0; rest = []; closed = omega arith; bytes = refl; lawful = usual; lengths_fit = (lit< tt, (lit< tt, tt)) };
  makes = record { lawful = (begin_is 2, (edits_are 2, tt)); made = refl };
}

abbrev with_no_cells : Inode ℕ → Inode (Option ℕ)
with_no_cells inode = inode_with inode []

abbrev placed_file : List (Option ℕ) → Inode (Option ℕ)
placed_file cells = inode_with (file []) cells

-- over places, the two bytes stand at 154 and 155
a_places : Stands None as_places (mark_bytes ++ body_part ++ 0 ∷ []) (a_with (Some (record {
  inodes = (256, with_no_cells directory) ∷ (257, placed_file (Some 154 ∷ Some 155 ∷ [])) ∷ [];
  names = ((256, codes "x"), 257) ∷ [];
  next = 258;
})) ∷ [])
unfolding begin_a edits_of_a mark_bytes body_part stored_words a_with
a_places = record {
  header = usual_header;
  groups = begin_a ∷ edits_of_a ∷ [];
  has = record { gate = 0; rest = []; closed = omega arith; bytes = refl; lawful = usual; lengths_fit = (lit< tt, (lit< tt, tt)) };
  makes = record { lawful = (begin_is 2, (edits_are 2, tt)); made = refl };
}

-- a Drop takes the entry away
drop_of_a : Group
drop_of_a = record { content = Drop (codes "a"); is_sealed = true }

drop_part : List ℕ
drop_part = hexadecimal (codes "0106000000000000000661534162fa")

dropped_stands : StandsFor (mark_bytes ++ body_part ++ drop_part ++ 0 ∷ []) []
unfolding begin_a edits_of_a drop_of_a mark_bytes body_part drop_part stored_words a_with
dropped_stands = record {
  header = usual_header;
  groups = begin_a ∷ edits_of_a ∷ drop_of_a ∷ [];
  has = record { gate = 0; rest = []; closed = omega arith; bytes = refl; lawful = usual; lengths_fit = (lit< tt, (lit< tt, (lit< tt, tt))) };
  makes = record { lawful = (begin_is 2, (edits_are 2, (record { content = tt; old = λ e. absurd (true≢false e) }, tt))); made = refl };
}

-- ---- both formats

-- the same part in groups without a checksum, and a part more in groups with one
old_a : List Group
old_a = record { content = Mark (Subvol (uuid 0x11) 1 (codes "a")); is_sealed = false }
    ∷ record { content = Body (uuid 0x11) 1 (MkFile (codes "x") ∷ Write (codes "x") 0 (codes "hi") ∷ []); is_sealed = false } ∷ []

new_b : List Group
new_b = record { content = Mark (Snapshot (uuid 0x22) 2 (codes "b") (uuid 0x11) 1); is_sealed = true }
    ∷ record { content = Body (uuid 0x22) 1 (Write (codes "x") 2 (codes "!") ∷ []); is_sealed = true } ∷ []

old_mark : List ℕ
old_mark = hexadecimal (codes "01300000000000000001250000000100333343ee01001000111111111111111111111111111111110200080001000000000000000f00010061")

unfoldable pub old_image : List ℕ
old_image = hexadecimal (codes "736e6473746f726501000000000000000001000001300000000000000001250000000100333343ee01001000111111111111111111111111111111110200080001000000000000000f000100610142000000000000000211111111111111111111111111111111010500000003002f8a36730f00010078170000000f00437eee5f0f0001007812000800000000000000000013000200686901540000000000000004450000000200ca93bfed01001000222222222222222222222222222222220200080002000000000000000f0001006214001000111111111111111111111111111111111500080001000000000000002092e1ce013600000000000000052222222222222222222222222222222201160000000f0095b74b770f00010078120008000200000000000000130001002194811c1a00")

snapshot_spellable : IsSpellable 1 (Snapshot (uuid 0x22) 2 (codes "b") (uuid 0x11) 1)
unfolding stored_words
snapshot_spellable = record {
  known = refl;
  values = ((refl, small (uuid 0x22) refl), (lit< tt, ((λ e. lit< tt, small (codes "b") refl), ((refl, small (uuid 0x11) refl), (lit< tt, tt)))));
  short = lit≤ tt;
}

one_write_spellable : IsSpellable 1 (Write (codes "x") 2 (codes "!"))
unfolding stored_words
one_write_spellable = record { known = refl; values = ((λ e. lit< tt, small (codes "x") refl), (lit< tt, ((λ e. lit< tt, small (codes "!") refl), tt))); short = lit≤ tt }

old_are : AllByRecursion (IsGroup 1) (old_a ++ new_b)
unfolding old_a new_b
old_are = (
  record { content = subvol_spellable; old = λ e. refl },
  (
    record { content = (refl, refl, ((refl, mkfile_spellable), ((refl, write_spellable), tt))); old = λ e. refl },
    (
      record { content = snapshot_spellable; old = λ e. refl },
      (record { content = (refl, refl, ((refl, one_write_spellable), tt)); old = λ e. refl }, tt),
    ),
  ),
)

unfoldable pub b_complete : Entry (Subvolume ℕ)
b_complete = record { name = codes "b"; key = key 0x22 2; parent = Some (key 0x11 1); contents = Some (one_file (codes "hi!") (codes "x" ∷ [])) }

old_stands : StandsFor old_image (a_with (Some (one_file (codes "hi") (codes "x" ∷ []))) ∷ b_complete ∷ [])
unfolding old_a new_b old_image stored_words a_with b_complete
old_stands = record {
  header = record { format = 1; number = 2 ^ 40 };
  groups = old_a ++ new_b;
  has = record { gate = 0; rest = []; closed = omega arith; bytes = refl; lawful = record { format = inl refl; number_fits = lit< tt }; lengths_fit = (lit< tt, (lit< tt, (lit< tt, (lit< tt, tt)))) };
  makes = record { lawful = old_are; made = refl };
}

-- ---- faults

-- no header
pub empty_fails : StandsForNone [] 0
empty_fails has = absurd (omega (arith, ap length has.bytes, length-append (header_of has.header) has.rest))

-- no gate behind a header, and behind two groups
header_fails : StandsForNone (take 20 new_image) 1
unfolding new_image stored_words
header_fails = record { header = usual_header; lawful = usual; groups = []; are = refl; lengths_fit = tt; store = []; makes = record { lawful = tt; made = refl }; rest = []; bytes = refl; fault = inl tt }

no_gate_fails : StandsForNone (mark_bytes ++ body_part) 3
unfolding begin_a edits_of_a mark_bytes body_part stored_words a_with
no_gate_fails = record {
  header = usual_header;
  lawful = usual;
  groups = begin_a ∷ edits_of_a ∷ [];
  are = refl;
  lengths_fit = (lit< tt, (lit< tt, tt));
  store = a_with (Some (one_file (codes "hi") (codes "x" ∷ []))) ∷ [];
  makes = record { lawful = (begin_is 2, (edits_are 2, tt)); made = refl };
  rest = [];
  bytes = refl;
  fault = inl tt;
}

-- a Body that ends behind its first frame, at 123 bytes of all
short_body_fails : StandsForNone (mark_bytes ++ take 42 body_part) 2
unfolding begin_a mark_bytes body_part stored_words a_with
short_body_fails = record {
  header = usual_header;
  lawful = usual;
  groups = begin_a ∷ [];
  are = refl;
  lengths_fit = (lit< tt, tt);
  store = a_with None ∷ [];
  makes = record { lawful = (begin_is 2, tt); made = refl };
  rest = take 42 body_part;
  bytes = refl;
  fault = inl (refl, lit< tt);
}

short_length : length (mark_bytes ++ take 42 body_part) ≡ 123
unfolding mark_bytes body_part
short_length = refl

-- another byte in the name: the checksum is that of the bytes as they were
other_bytes : List ℕ
other_bytes = hexadecimal (codes "04250000000100333343ee01001000111111111111111111111111111111110200080001000000000000000f00010062")

other_refused : (group : Group) → IsGroup 2 group → body_bytes group ≡ other_bytes ++ 0xe4 ∷ 0xc7 ∷ 0x04 ∷ 0xa7 ∷ [] → ⊥
unfolding other_bytes stored_words
other_refused group is own =
    let number = number_in group (other_bytes ++ 0xe4 ∷ 0xc7 ∷ 0x04 ∷ 0xa7 ∷ []) own in
    let seal = seal_is group other_bytes (0xe4 ∷ 0xc7 ∷ 0x04 ∷ 0xa7 ∷ []) refl (sealed_by group (omega (arith, number))) own in
    absurd (omega (arith, ap (λ (l : List ℕ). get_or l 0 0) seal.1))

checksum_fails : StandsForNone (take 20 new_image ++ (1 ∷ 52 ∷ 0 ∷ 0 ∷ 0 ∷ 0 ∷ 0 ∷ 0 ∷ 0 ∷ (other_bytes ++ 0xe4 ∷ 0xc7 ∷ 0x04 ∷ 0xa7 ∷ [])) ++ 0 ∷ []) 1
unfolding new_image other_bytes stored_words
checksum_fails = record {
  header = usual_header;
  lawful = usual;
  groups = [];
  are = refl;
  lengths_fit = tt;
  store = [];
  makes = record { lawful = tt; made = refl };
  rest = (1 ∷ 52 ∷ 0 ∷ 0 ∷ 0 ∷ 0 ∷ 0 ∷ 0 ∷ 0 ∷ (other_bytes ++ 0xe4 ∷ 0xc7 ∷ 0x04 ∷ 0xa7 ∷ [])) ++ 0 ∷ [];
  bytes = refl;
  fault = inr (record { body = other_bytes ++ 0xe4 ∷ 0xc7 ∷ 0x04 ∷ 0xa7 ∷ []; others = 0 ∷ []; short = lit< tt; bytes = refl; refused = λ group is own. absurd (other_refused group is own) });
}

-- a Mark without a checksum in an image of format 2
old_refused : (group : Group) → IsGroup 2 group → body_bytes group ≡ drop 9 old_mark → ⊥
unfolding old_mark
old_refused group is own =
    let number = number_in group (drop 9 old_mark) own in
    absurd (omega (arith, is.old (plain_by group (omega (arith, number)))))

old_kind_fails : StandsForNone (take 20 new_image ++ old_mark ++ 0 ∷ []) 1
unfolding new_image old_mark stored_words
old_kind_fails = record {
  header = usual_header;
  lawful = usual;
  groups = [];
  are = refl;
  lengths_fit = tt;
  store = [];
  makes = record { lawful = tt; made = refl };
  rest = old_mark ++ 0 ∷ [];
  bytes = refl;
  fault = inr (record { body = drop 9 old_mark; others = 0 ∷ []; short = lit< tt; bytes = refl; refused = λ group is own. absurd (old_refused group is own) });
}

-- the same Drop twice: the second one names no entry
drop_refused : (group : Group) → IsGroup 2 group → body_bytes group ≡ body_bytes drop_of_a → made 0 as_bytes 100 [] group.content ≡ None
unfolding drop_of_a stored_words
drop_refused group is own =
    let same : group ≡ drop_of_a = body_one 2 group drop_of_a is (record { content = tt; old = λ e. absurd (true≢false e) }) own in
    ap (λ (g : Group). made 0 as_bytes 100 [] g.content) same

-- a Body of a third version, though it has no frames
third_version : List ℕ
third_version = hexadecimal (codes "0116000000000000000511111111111111111111111111111111032d3e7609")

third_refused : (group : Group) → IsGroup 2 group → body_bytes group ≡ drop 9 third_version → ⊥
unfolding third_version stored_words
third_refused group is own =
    let number = number_in group (drop 9 third_version) own in
    let seal = seal_is group (take 18 (drop 9 third_version)) (drop 27 third_version) refl (sealed_by group (omega (arith, number))) own in
    one group.content is.content seal.0
  where
    one : (c : Content) → IsContent c → number_of true c ∷ content_bytes c ≡ take 18 (drop 9 third_version) → ⊥
    one (Body uuid version commands) said q =
        let parts = parts_of_body uuid version (canonical_all version commands) (take 17 (drop 10 third_version)) said.0 (ap (λ (l : List ℕ). drop 1 l) q) in
        true≢false (sym said.1 ∙ ap (λ (n : ℕ). is_version n) parts.1)
    one (Mark head) said q = absurd (omega (arith, ap (λ (l : List ℕ). get_or l 0 0) q))
    one (Drop name) said q = absurd (omega (arith, ap (λ (l : List ℕ). get_or l 0 0) q))

third_version_fails : StandsForNone (mark_bytes ++ third_version ++ 0 ∷ []) 2
unfolding begin_a mark_bytes third_version stored_words a_with
third_version_fails = record {
  header = usual_header;
  lawful = usual;
  groups = begin_a ∷ [];
  are = refl;
  lengths_fit = (lit< tt, tt);
  store = a_with None ∷ [];
  makes = record { lawful = (begin_is 2, tt); made = refl };
  rest = third_version ++ 0 ∷ [];
  bytes = refl;
  fault = inr (record { body = drop 9 third_version; others = 0 ∷ []; short = lit< tt; bytes = refl; refused = λ group is own. absurd (third_refused group is own) });
}

-- ---- groups that make nothing

abbrev whole_a : Store ℕ
whole_a = a_with (Some (one_file (codes "hi") (codes "x" ∷ []))) ∷ []

-- a head whose name is there, a head whose parent is not, and a command that is no head
no_mark : (made 0 as_bytes 29 whole_a (Mark (Subvol (uuid 0x33) 3 (codes "a"))) ≡ None)
    × (made 0 as_bytes 29 whole_a (Mark (Snapshot (uuid 0x22) 2 (codes "b") (uuid 0x11) 2)) ≡ None)
    × (made 0 as_bytes 29 whole_a (Mark (MkFile (codes "x"))) ≡ None)
unfolding stored_words a_with
no_mark = (refl, refl, refl)

-- the edits of an entry that is complete, of no entry, and an edit that is refused
no_body : (made 0 as_bytes 29 whole_a (Body (uuid 0x11) 1 []) ≡ None)
    × (made 0 as_bytes 29 whole_a (Body (uuid 0x22) 1 []) ≡ None)
    × (made 0 as_bytes 29 (a_with None ∷ []) (Body (uuid 0x11) 1 (Unlink (codes "x") ∷ [])) ≡ None)
unfolding stored_words a_with
no_body = (refl, refl, refl)

-- the edits of a snapshot whose parent was dropped meanwhile
abbrev b_begun : Store ℕ
b_begun = record { name = codes "b"; key = key 0x22 2; parent = Some (key 0x11 1); contents = None } ∷ []

parent_gone : (made 0 as_bytes 29 (whole_a ++ b_begun) (Body (uuid 0x22) 1 []) ≡ Some (whole_a ++ record { name = codes "b"; key = key 0x22 2; parent = Some (key 0x11 1); contents = Some (one_file (codes "hi") (codes "x" ∷ [])) } ∷ []))
    × (made_all 0 as_bytes 20 (whole_a ++ b_begun) (drop_of_a ∷ record { content = Body (uuid 0x22) 1 []; is_sealed = true } ∷ []) ≡ None)
unfolding drop_of_a stored_words a_with
parent_gone = (refl, refl)

-- the edits of a snapshot whose parent is not complete
parent_unfinished : made 0 as_bytes 29 (a_with None ∷ b_begun) (Body (uuid 0x22) 1 []) ≡ None
unfolding stored_words a_with
parent_unfinished = refl

-- neither a head nor END stands among edits
not_edits : (is_edit End ≡ false) × (is_edit (Subvol (uuid 0x11) 1 (codes "a")) ≡ false) × (is_edit (Unlink (codes "x")) ≡ true)
not_edits = (refl, refl, refl)

-- a Drop takes the entry of its name alone, complete or not
drops_one : (made 0 as_bytes 29 (whole_a ++ b_complete ∷ []) (Drop (codes "a")) ≡ Some (b_complete ∷ []))
    × (made 0 as_bytes 29 (whole_a ++ b_begun) (Drop (codes "b")) ≡ Some whole_a)
    × (made 0 as_bytes 29 (whole_a ++ b_begun) (Drop (codes "a")) ≡ Some b_begun)
unfolding stored_words a_with b_complete
drops_one = (refl, refl, refl)

-- a name that is no entry's
no_drop : made 0 as_bytes 29 whole_a (Drop (codes "zz")) ≡ None
unfolding stored_words a_with
no_drop = refl
