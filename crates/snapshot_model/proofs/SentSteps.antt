-- The commands of the next path of a listing are taken, and the part has this path too.
use Rattle.std.specs.Prelude.{◌≡◌, ◌≢◌, ℕ, ◌+◌, ◌<◌, false, List, [], ◌∷◌, ◌++◌, Option, None, Some, Result, Ok, IsTrue, is_some}
use Rattle.std.specs.Ordering.{nat_cmp}
use Rattle.std.specs.Cmp.{nat_cmp_total}
use Rattle.std.proofs.Common.{refl, sym, ap, subst, ◌∙◌, arith, inl, inr}
use Rattle.std.proofs.lemmas.Bool.{cases_Bool, true≢false, ne_eqb}
use Rattle.std.proofs.lemmas.Map.Lookups.{exact_unsigned, exact_bytes}
use Rattle.send_model.specs.Refusal.{Refusal}
use Rattle.send_model.specs.Chain.{◌>>=◌}
use Rattle.send_model.specs.Command.{Command, Link}
use Rattle.send_model.specs.Path.{path_names}
use Rattle.send_model.specs.Map.{Map, bytes_cmp, named_cmp, with_value}
use Rattle.send_model.specs.Subvolume.{NodeKind, File, Directory, SymbolicLink, CharacterDevice, BlockDevice, Fifo, Socket, is_directory_kind, passes_inode, Inode, Subvolume, Spot, IsLawful, walk, named, is_directory, inode_at}
use Rattle.send_model.specs.Edit.{add_inode, add_name, make, make_device, link, greatest_number, edit}
use Rattle.send_model.specs.Receive.{bytes_of}
use Rattle.snapshot_model.specs.Listing.{paths_of, held}
use Rattle.snapshot_model.specs.Sent.{making, making_commands, edit_all}
use Rattle.snapshot_model.specs.SentLaws.{made}
use Rattle.send_model.proofs.Fuel.{bound, ok_same}
use Rattle.send_model.proofs.MapLaws.{with_value-here, with_value-other}
use Rattle.send_model.proofs.Soundness.{directory_is_there}
use Rattle.send_model.proofs.LeastPaths.{Among, NotAfter, not_after_one}
use Rattle.send_model.proofs.LawfulEdits.{edit_keeps_lawful}
use Rattle.snapshot_model.proofs.SentWalks.{names_path, one_way}
use Rattle.snapshot_model.proofs.SentPaths.{walked, walked_there}
use Rattle.snapshot_model.proofs.SentInodes.{Stands, Sets, walks}
use Rattle.snapshot_model.proofs.SentParts.{same_directory, look_directory, first, Twin, Holds, Room, room, old_walks, new_walks, walks_back, Grown, spot_is, among_done}

abbrev Cell : Type 0
Cell = Option ℕ

-- Edits one after the other keep a subvolume lawful.
pub edits_keep_lawful : (cs : List Command) (s t : Subvolume Cell) → IsLawful s → edit_all cs s ≡ Ok t → IsLawful t
unfolding edit_all
edits_keep_lawful [] s t h e = subst (λ (u : Subvolume Cell). IsLawful u) (ok_same e) h
edits_keep_lawful (c ∷ cs) s t h e =
    let b = bound (edit None (held (bytes_of c)) c s) (edit_all cs) t e in
    edits_keep_lawful cs b.0 t (edit_keeps_lawful None (held (bytes_of c)) c s b.0 h b.1) b.2

-- The making command makes the inode.
pub making_is : (p : List ℕ) (kind : NodeKind) (inode : Inode Cell) (t : Subvolume Cell) → edit None (held (bytes_of (making p kind inode))) (making p kind inode) t ≡ make (made kind inode) p t
unfolding edit make_device
making_is p File inode t = refl
making_is p Directory inode t = refl
making_is p SymbolicLink inode t = refl
making_is p CharacterDevice inode t = refl
making_is p BlockDevice inode t = refl
making_is p Fifo inode t = refl
making_is p Socket inode t = refl

pub making_some : (p : List ℕ) (inode : Inode Cell) → (p ≡ [] → ⊥) → making_commands p inode ≡ making p inode.kind inode ∷ []
making_some [] inode some = absurd (some refl)
making_some (b ∷ p) inode some = refl

module _ (s : Subvolume Cell) (lawful : IsLawful s) (look : ℕ → Option (Inode Cell)) (alike : (i : ℕ) → passes_inode (λ inode. is_directory_kind inode.kind) (look i) ≡ is_directory s i) (done rest : Map (List ℕ) ℕ) (p : List ℕ) (i : ℕ) (all : done ++ (p, i) ∷ rest ≡ paths_of s)
    (t : Subvolume Cell) (h : Holds s lawful look alike done t) (w : walk s p ≡ Ok i) (some : p ≡ [] → ⊥) where
  pub the_room : Room s lawful look alike done p i t
  the_room = room s lawful look alike done rest p i all t h w some

  -- No name stands in what is no directory.
  no_names : (x : ℕ) → is_directory t x ≡ false → (n : List ℕ) (b : ℕ) → named t x n ≡ Some b → ⊥
  no_names x none n b e = true≢false (sym (h.good.sound.in_directory x n b e) ∙ none)

  -- ---- an inode more

  not_yet : inode_at t t.next ≡ None
  not_yet = one (inode_at t t.next) refl
    where
      one : (o : Option (Inode Cell)) → inode_at t t.next ≡ o → o ≡ None
      one None e = refl
      one (Some inode) e = absurd (let less : t.next < t.next = h.good.sound.below_next t.next (ap is_some e) in omega (arith, less))

  not_there : (x : ℕ) → IsTrue (is_some (inode_at t x)) → x ≡ t.next → ⊥
  not_there x there e = let none : inode_at t x ≡ None = ap (inode_at t) e ∙ not_yet in true≢false (sym there ∙ ap is_some none)

  no_directory : is_directory t t.next ≡ false
  no_directory = elim (cases_Bool (is_directory t t.next)) [
    | inl yes' ↦ absurd (not_there t.next (directory_is_there t t.next yes') refl)
    | inr none ↦ none
  ]

  module _ (fresh final : Inode Cell) (at : look i ≡ Some final) (cs rest_of : List Command)
      (starts : (u : Subvolume Cell) → make fresh p t ≡ Ok u → edit_all cs t ≡ edit_all rest_of u)
      (sets : (u : Subvolume Cell) (here : inode_at u t.next ≡ Some fresh) (way : walk u p ≡ Ok t.next) → Sets p t.next u fresh here way rest_of fresh final)
      (is_first : first s lawful i ≡ p) (number : t.next ≢ greatest_number) where
    place : Spot
    place = record { directory = the_room.directory; name = the_room.name }

    new : Subvolume Cell
    new = add_inode place fresh t

    make_taken : make fresh p t ≡ Ok new
    unfolding make new place
    make_taken = rw (spot_is s lawful look alike done rest p i all t h the_room, the_room.free, ne_eqb t.next greatest_number number) refl

    names_are : new.names ≡ with_value named_cmp (the_room.directory, the_room.name) t.next t.names
    unfolding new place add_inode
    names_are = refl

    new_here : inode_at new t.next ≡ Some fresh
    unfolding new add_inode
    new_here = with_value-here nat_cmp nat_cmp_total exact_unsigned t.next fresh t.inodes

    new_other : (k : ℕ) → (k ≡ t.next → ⊥) → inode_at new k ≡ inode_at t k
    unfolding new add_inode
    new_other k n = with_value-other nat_cmp nat_cmp_total exact_unsigned k t.next fresh t.inodes n

    new_next : new.next ≡ t.next + 1
    unfolding new add_inode
    new_next = refl

    new_directories : (k : ℕ) → (k ≡ t.next → ⊥) → is_directory new k ≡ is_directory t k
    new_directories k n = same_directory new t k k (new_other k n)

    -- Its directory is another one.
    elsewhere : the_room.directory ≡ t.next → ⊥
    elsewhere e = not_there the_room.directory (directory_is_there t the_room.directory the_room.there) e

    new_way : walk new p ≡ Ok t.next
    new_way = new_walks s lawful look alike done rest p i all t h the_room t.next new names_are new_directories (no_names t.next no_directory) elsewhere

    start : Stands p t.next new fresh new_here new_way new fresh
    start = record { names = refl; next = refl; here = new_here; others = λ k n. refl; kind = refl }

    pub record Came : Type 0 where
      pub after : Subvolume Cell
      pub taken : edit_all cs t ≡ Ok after
      pub grown : Grown s lawful look alike done rest p i all t h t.next after
      pub next : after.next ≡ t.next + 1

    pub comes : Came
    comes =
        let r = sets new new_here new_way new start in
        let v : Subvolume Cell = r.0 in
        let taken : edit_all cs t ≡ Ok v = starts new make_taken ∙ r.1 in
        let same : (q : List ℕ) → walk v q ≡ walk new q = λ q. walks p t.next new fresh new_here new_way v final r.2 q in
        let old : (q : List ℕ) (j : ℕ) → walk t q ≡ Ok j → walk v q ≡ Ok j = λ q j o. same q ∙ old_walks s lawful look alike done rest p i all t h the_room t.next new names_are new_directories (no_names t.next no_directory) elsewhere q j o in
        let is_new : walk v p ≡ Ok t.next = same p ∙ new_way in
        record {
          after = v;
          taken = taken;
          grown = record {
            fine = edits_keep_lawful cs t v h.good taken;
            old = old;
            new = is_new;
            first_new = ap (walk v) is_first ∙ is_new;
            back = λ q j o. walks_back s lawful look alike done rest p i all t h the_room t.next new names_are new_directories (no_names t.next no_directory) elsewhere q j (sym (same q) ∙ o);
            kept = λ q k j a o. let n = not_there j (walked_there t h.good.sound q j o) in r.2.others j n ∙ new_other j n;
            here = r.2.here ∙ sym at;
            one = λ q k a o. absurd (not_there t.next (walked_there t h.good.sound q t.next o) refl);
          };
          next = r.2.next ∙ new_next;
        }

  -- ---- a name more

  module _ (f : List ℕ) (first_is : first s lawful i ≡ f) (first_leads : walk s f ≡ Ok i) (least : NotAfter f p) (other : f ≡ p → ⊥) where
    first_done : Among (f, i) done
    first_done = elim (not_after_one (bytes_cmp f p) least) [
      | inl less ↦ among_done s lawful look alike done rest p i all t h f i first_leads less
      | inr same ↦ absurd (other (exact_bytes f p same))
    ]

    pub twin : Twin s lawful look alike t f i
    twin = h.same f i first_done

    -- What has two paths is no directory.
    plain : is_directory s i ≡ false
    plain = elim (cases_Bool (is_directory s i)) [
      | inr none ↦ none
      | inl is ↦
          let a = walked s f i first_leads in
          let b = walked s p i w in
          let same : a.names ≡ b.names = one_way s lawful.sound a.names b.names i is a.leads b.leads in
          absurd (other (names_path_of a.names b.names a.names_are b.names_are same))
    ]
      where
        names_path_of : (n m : List (List ℕ)) → path_names f ≡ Some n → path_names p ≡ Some m → n ≡ m → f ≡ p
        names_path_of n m e g same = names_path s f p m (e ∙ ap (λ (k : List (List ℕ)). Some k) same) g

    no_dir : is_directory t twin.ino ≡ false
    no_dir = look_directory s lawful look alike t twin.ino i twin.inode ∙ plain

    linked : Subvolume Cell
    linked = add_name (record { directory = the_room.directory; name = the_room.name }) twin.ino t

    link_taken : link p f t ≡ Ok linked
    unfolding link linked
    link_taken = rw (ap is_some the_room.names_are, twin.walks, no_dir, spot_is s lawful look alike done rest p i all t h the_room, the_room.free) refl

    linked_names : linked.names ≡ with_value named_cmp (the_room.directory, the_room.name) twin.ino t.names
    unfolding linked
    linked_names = refl

    linked_directories : (k : ℕ) → (k ≡ twin.ino → ⊥) → is_directory linked k ≡ is_directory t k
    unfolding linked
    linked_directories k n = same_directory linked t k k (linked_inode k)
      where
        linked_inode : (k : ℕ) → inode_at linked k ≡ inode_at t k
        linked_inode k = refl

    apart_from : the_room.directory ≡ twin.ino → ⊥
    apart_from e = true≢false (sym the_room.there ∙ ap (is_directory t) e ∙ no_dir)

    pub record Linked : Type 0 where
      pub after : Subvolume Cell
      pub taken : edit_all (Link p f ∷ []) t ≡ Ok after
      pub grown : Grown s lawful look alike done rest p i all t h twin.ino after
      pub next : after.next ≡ t.next

    pub links : Linked
    unfolding edit_all edit linked
    links =
        let taken : edit_all (Link p f ∷ []) t ≡ Ok linked = ap (λ (r : Result (Subvolume Cell) Refusal). r >>= edit_all []) link_taken in
        let old : (q : List ℕ) (j : ℕ) → walk t q ≡ Ok j → walk linked q ≡ Ok j = old_walks s lawful look alike done rest p i all t h the_room twin.ino linked linked_names linked_directories (no_names twin.ino no_dir) apart_from in
        record {
          after = linked;
          taken = taken;
          grown = record {
            fine = edits_keep_lawful (Link p f ∷ []) t linked h.good taken;
            old = old;
            new = new_walks s lawful look alike done rest p i all t h the_room twin.ino linked linked_names linked_directories (no_names twin.ino no_dir) apart_from;
            first_new = old (first s lawful i) twin.ino twin.first_walks;
            back = walks_back s lawful look alike done rest p i all t h the_room twin.ino linked linked_names linked_directories (no_names twin.ino no_dir) apart_from;
            kept = λ q k j a o. refl;
            here = twin.inode;
            one = λ q k a o. h.apart q f k i twin.ino a first_done o twin.walks;
          };
          next = refl;
        }
