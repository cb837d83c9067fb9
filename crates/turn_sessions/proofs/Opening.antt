-- Sessions before their first turn.
use Rattle.std.specs.Prelude.{◌≡◌, ℕ, zero, suc, ◌+◌, ◌<◌, ◌≤◌, Bool, false, List, [], ◌∷◌, length, map, take, drop, get_or, remove, Option, None, slice_index_or, if◌then◌else◌}
use Rattle.std.specs.List.{AllByRecursion}
use Rattle.std.proofs.Common.{refl, sym, ap, subst, ◌∙◌, arith}
use Rattle.send_model.specs.Lengths.{limit}
use Rattle.send_model.specs.Reading.{Whole, reads}
use Rattle.send_model.specs.Guards.{Guard}
use Rattle.store_model.specs.Turns as meant
use Rattle.store_model.specs.Turns.{sessions_from}
use Rattle.store_model.proofs.TurnOrder.{held_of}
use Rattle.store_model.specs.TurnCells.{recelled_session}
use Rattle.store_model.specs.TurnDues.{bytes_read, files_read, shared}
use Rattle.cmd_reader.specs.Places.{IfTold}
use Rattle.cmd_reader.specs.Left.{Reader, at_start, left, HasAhead}
use Rattle.cmd_reader.proofs.Told.{told_map}
use Rattle.cmd_reader.proofs.Aheads.{start_ahead}
use Rattle.turn_sessions.specs.declared.part.OpenPart.{OpenPart}
use Rattle.turn_sessions.specs.declared.session.Session.{Session}
use Rattle.turn_sessions.specs.Standing.{Blank, AreParts, IsSession, AreSessions}
use Rattle.turn_sessions.specs.Turning.{HasVersion}
use Rattle.turn_sessions.specs.Going.{IsNew, AreNew, IsReading, AreReading, HasRead, HasLeft, HaveLeft, AreShorter}

-- ---- one more session

-- The name of the next file.
pub next_name : {A : Type 0} (name_of : A → List ℕ) (files : List A) (n : ℕ) (d : A) → n < length files → drop n (map name_of files) ≡ name_of (get_or files n d) ∷ drop (n + 1) (map name_of files)
next_name name_of [] n d lt = absurd (omega (arith, lt))
next_name name_of (x ∷ files) zero d lt = refl
next_name name_of (x ∷ files) (suc n) d lt =
    let same : suc (n + 1) ≡ suc n + 1 = omega arith in
    next_name name_of files n d (omega (arith, lt)) ∙ ap (λ (k : ℕ). name_of (get_or files n d) ∷ drop k (map name_of (x ∷ files))) same

pub no_names : {A : Type 0} (name_of : A → List ℕ) (files : List A) (n : ℕ) → length files ≤ n → drop n (map name_of files) ≡ []
no_names name_of [] zero le = refl
no_names name_of [] (suc n) le = refl
no_names name_of (x ∷ files) zero le = absurd (omega (arith, le))
no_names name_of (x ∷ files) (suc n) le = no_names name_of files n (omega (arith, le))

-- It is taken from in front of the guards.
pub one_new : {G : Type 0} (number : ℕ) (names rest : List (List ℕ)) (name : List ℕ) (guards less : List G) (own : G) (session : Session G) (others : List (Session G)) → names ≡ name ∷ rest → 0 < length guards
    → own ≡ slice_index_or guards 0 own → less ≡ remove guards 0 → IsNew number name own session → AreNew (number + 1) rest less others → AreNew number names guards (session ∷ others)
one_new number names rest name [] less own session others is some first left new more = absurd (omega (arith, some))
one_new number names rest name (x ∷ guards) less own session others is some first left new more =
    subst (λ (l : List (List ℕ)). AreNew number l (x ∷ guards) (session ∷ others)) (sym is)
    (subst (λ (y : _). IsNew number name y session) first new, subst (λ (l : List _). AreNew (number + 1) rest l others) left more)

pub none_new : {G : Type 0} (number : ℕ) (names : List (List ℕ)) (guards : List G) → names ≡ [] → length guards ≡ 0 → AreNew number names guards []
none_new {G} number names [] is none = subst (λ (l : List (List ℕ)). AreNew {G = G} number l [] []) (sym is) tt
none_new number names (x ∷ guards) is none = cc

-- ---- what they are

module _ {G : Type 0} (told : Option (List (List ℕ × List ℕ))) where
  new_reading : (number : ℕ) (name : List ℕ) (own : G) (session : Session G) → IsNew number name own session → IsReading told number name session
  new_reading number name own session new =
      let named : session.reader.name ≡ name = ap (λ (r : Reader). r.name) new.reader in
      let near : 0 ≤ limit = omega arith in
      record {
        file = new.file;
        own = ap (λ (r : Reader). r.file) new.reader;
        named = named;
        same = subst (λ (c : Option OpenPart). HasVersion session.reader c) (sym new.none) tt;
        within = λ going. subst (λ (r : Reader). r.offset ≤ limit) (sym new.reader) near;
        ahead = subst (λ (l : List ℕ). IfTold told l (λ bytes. session.is_over ≡ false → HasAhead session.reader bytes)) named
            (told_map told session.reader.name (HasAhead session.reader) (λ bytes. session.is_over ≡ false → HasAhead session.reader bytes) (λ bytes h going. h) (start_ahead told number name session.reader new.reader));
      }

  pub are_reading : (number : ℕ) (names : List (List ℕ)) (guards : List G) (sessions : List (Session G)) → AreNew number names guards sessions → AreReading told number names sessions
  are_reading number [] [] [] new = tt
  are_reading number [] [] (s ∷ sessions) new = absurd new
  are_reading number [] (own ∷ guards) sessions new = absurd new
  are_reading number (name ∷ names) [] sessions new = absurd new
  are_reading number (name ∷ names) (own ∷ guards) [] new = absurd new
  are_reading number (name ∷ names) (own ∷ guards) (s ∷ sessions) new = (new_reading number name own s new.0, are_reading (number + 1) names guards sessions new.1)

module _ {G : Type 0} (kept : G → List Guard) where
  -- Whether or not the inputs tell.
  abbrev pub plain : Session G → meant.Session Blank
  plain session = record { items = []; end = Whole; guards = kept session.guards; part = None; is_over = false }

  its_session : (s : meant.Session Blank) (number : ℕ) (name : List ℕ) (own : G) (session : Session G) → IsNew number name own session → s.guards ≡ kept own → s.is_over ≡ false → s.part ≡ None → IsSession kept s session
  its_session s number name own session new guards going none =
      let held : held_of s ≡ None = ap (λ (b : Bool). if b then None else s.part) going ∙ none in
      record {
        guards = guards ∙ ap kept (sym new.own);
        over = going ∙ sym new.going;
        part = subst (λ (c : Option OpenPart). AreParts (held_of s) c) (sym new.none) (subst (λ (o : Option (meant.Receiving Blank)). AreParts o None) (sym held) tt);
      }

  pub plain_sessions : (number : ℕ) (names : List (List ℕ)) (guards : List G) (sessions : List (Session G)) → AreNew number names guards sessions → AreSessions kept (map plain sessions) sessions
  plain_sessions number [] [] [] new = tt
  plain_sessions number [] [] (s ∷ sessions) new = absurd new
  plain_sessions number [] (own ∷ guards) sessions new = absurd new
  plain_sessions number (name ∷ names) [] sessions new = absurd new
  plain_sessions number (name ∷ names) (own ∷ guards) [] new = absurd new
  plain_sessions number (name ∷ names) (own ∷ guards) (s ∷ sessions) new = (its_session (plain s) number name own s new.0 (ap kept new.0.own) refl refl, plain_sessions (number + 1) names guards sessions new.1)

  pub plain_have_none : (sessions : List (Session G)) → AllByRecursion (λ s. s.part ≡ None) (map plain sessions)
  plain_have_none [] = tt
  plain_have_none (s ∷ sessions) = (refl, plain_have_none sessions)

  -- The sessions of files, with the guards that they share.
  abbrev pub blanks : ℕ → List (List ℕ) → List Guard → List ℕ → List (meant.Session Blank)
  blanks number files all shares = map (recelled_session (λ _. tt)) (sessions_from number files all shares)

  abbrev pub fresh : ℕ → List ℕ → List Guard → meant.Session Blank
  fresh number file guards = recelled_session {C = ℕ} (λ _. tt) (meant.new_session (reads number (bytes_read number file)) guards)

  heads : {A : Type 0} {x y : A} {xs ys : List A} → x ∷ xs ≡ y ∷ ys → x ≡ y
  heads e = cc

  tails : {A : Type 0} {x y : A} {xs ys : List A} → x ∷ xs ≡ y ∷ ys → xs ≡ ys
  tails e = cc

  pub are_sessions : (number : ℕ) (names files : List (List ℕ)) (guards : List G) (sessions : List (Session G)) (all : List Guard) (shares : List ℕ) → length files ≡ length names → AreNew number names guards sessions → map kept guards ≡ shared all shares
      → AreSessions kept (blanks number (files_read number files) all shares) sessions
  unfolding sessions_from files_read shared
  are_sessions number [] [] [] [] all shares long new own = tt
  are_sessions number [] (f ∷ files) guards sessions all shares long new own = cc
  are_sessions number (name ∷ names) [] guards sessions all shares long new own = cc
  are_sessions number [] [] [] (s ∷ sessions) all shares long new own = absurd new
  are_sessions number [] [] (g ∷ guards) sessions all shares long new own = absurd new
  are_sessions number (name ∷ names) (f ∷ files) [] sessions all shares long new own = absurd new
  are_sessions number (name ∷ names) (f ∷ files) (g ∷ guards) [] all shares long new own = absurd new
  are_sessions number (name ∷ names) (f ∷ files) (g ∷ guards) (s ∷ sessions) all [] long new own = cc
  are_sessions number (name ∷ names) (f ∷ files) (g ∷ guards) (s ∷ sessions) all (share ∷ shares) long new own = (
    its_session (fresh number f (take share all)) number name g s new.0 (sym (heads own)) refl refl,
    are_sessions (number + 1) names files guards sessions (drop share all) shares (omega (arith, long)) new.1 (tails own),
  )

  -- Each has all of its file to read.
  module _ (number : ℕ) (file : List ℕ) where
    fresh_read : (name bytes : List ℕ) → HasRead number (at_start number name) bytes
    unfolding left reads
    fresh_read name bytes = record { done = []; read = refl; reached = omega arith }

    fresh_left : (name : List ℕ) (guards : List Guard) (reader : Reader) → reader ≡ at_start number name → HasLeft number file (fresh number file guards) reader
    unfolding left reads
    fresh_left name guards reader is = subst (λ (r : Reader). HasLeft number file (fresh number file guards) r) (sym is)
        (record { items = refl; end = refl; whole = fresh_read name file; front = fresh_read name (take limit file) })

  pub have_left : (number : ℕ) (names files : List (List ℕ)) (guards : List G) (sessions : List (Session G)) (all : List Guard) (shares : List ℕ) → length files ≡ length names → AreNew number names guards sessions → map kept guards ≡ shared all shares
      → HaveLeft number files (blanks number (files_read number files) all shares) sessions
  unfolding sessions_from files_read shared
  have_left number [] [] [] [] all shares long new own = tt
  have_left number [] (f ∷ files) guards sessions all shares long new own = cc
  have_left number (name ∷ names) [] guards sessions all shares long new own = cc
  have_left number [] [] [] (s ∷ sessions) all shares long new own = absurd new
  have_left number [] [] (g ∷ guards) sessions all shares long new own = absurd new
  have_left number (name ∷ names) (f ∷ files) [] sessions all shares long new own = absurd new
  have_left number (name ∷ names) (f ∷ files) (g ∷ guards) [] all shares long new own = absurd new
  have_left number (name ∷ names) (f ∷ files) (g ∷ guards) (s ∷ sessions) all [] long new own = cc
  have_left number (name ∷ names) (f ∷ files) (g ∷ guards) (s ∷ sessions) all (share ∷ shares) long new own = (
    λ going. fresh_left number f name (take share all) s.reader new.0.reader,
    have_left (number + 1) names files guards sessions (drop share all) shares (omega (arith, long)) new.1 (tails own),
  )

pub same_count : {G : Type 0} (kept : G → List Guard) (ss : List (meant.Session Blank)) (sessions : List (Session G)) → AreSessions kept ss sessions → length ss ≡ length sessions
same_count kept [] [] are = refl
same_count kept [] (c ∷ sessions) are = absurd are
same_count kept (s ∷ ss) [] are = absurd are
same_count kept (s ∷ ss) (c ∷ sessions) are = ap suc (same_count kept ss sessions are.1)

pub count_of_new : {G : Type 0} (number : ℕ) (names : List (List ℕ)) (guards : List G) (sessions : List (Session G)) → AreNew number names guards sessions → length sessions ≡ length names
count_of_new number [] [] [] new = refl
count_of_new number [] [] (s ∷ sessions) new = absurd new
count_of_new number [] (own ∷ guards) sessions new = absurd new
count_of_new number (name ∷ names) [] sessions new = absurd new
count_of_new number (name ∷ names) (own ∷ guards) [] new = absurd new
count_of_new number (name ∷ names) (own ∷ guards) (s ∷ sessions) new = ap suc (count_of_new (number + 1) names guards sessions new.1)

pub as_short : (ss : List (meant.Session Blank)) → AreShorter ss ss
as_short [] = tt
as_short (s ∷ ss) = (omega arith, as_short ss)
