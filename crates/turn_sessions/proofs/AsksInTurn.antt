-- What sessions that take turns ask for.
use Rattle.std.specs.Prelude.{◌≡◌, ℕ, ◌+◌, ◌<◌, List, [], ◌∷◌, length, map, get_or, set}
use Rattle.std.proofs.Common.{refl, sym, ap, subst, ◌∙◌}
use Rattle.std.proofs.lemmas.List.{length-map, get_or-map, map-set}
use Rattle.sx_base.specs.Asks.{Ask, IsReadOn, ReadTo, nowhere, AreReadInTurn}
use Rattle.sx_base.proofs.Asking.{turn_one}
use Rattle.cmd_reader.specs.Left.{read_to}
use Rattle.turn_sessions.specs.declared.session.Session.{Session}
use Rattle.turn_sessions.specs.Going.{AreNew}
use Rattle.turn_sessions.specs.Asked.{file_of, read_by, unread, AreReadInTurns}

-- A turn of one of them reads its file on.
pub one_asked : {G : Type 0} (sessions : List (Session G)) (n : ℕ) (d after : Session G) → n < length sessions → after.reader.name ≡ (get_or sessions n d).reader.name
    → (asks : List Ask) → IsReadOn (get_or sessions n d).reader.name (read_to (get_or sessions n d).reader) asks (read_to after.reader)
    → AreReadInTurn (read_by sessions) asks (read_by (set sessions n after))
one_asked sessions n d after within named asks on =
    let its : Session _ → ReadTo = (λ session. file_of session.reader) in
    let here : ReadTo = get_or (read_by sessions) n nowhere in
    let is : here ≡ its (get_or sessions n d) = get_or-map its sessions n d nowhere within in
    let name_is : here.name ≡ after.reader.name = ap (λ (r : ReadTo). r.name) is ∙ sym named in
    subst (λ (l : List ReadTo). AreReadInTurn (read_by sessions) asks l)
    ((λ i. set (read_by sessions) n (record { name = name_is i; place = read_to after.reader })) ∙ sym (map-set its sessions n after))
    (turn_one (read_by sessions) n asks (read_to after.reader) (subst (λ (m : ℕ). n < m) (sym (length-map sessions its)) within)
    (subst (λ (r : ReadTo). IsReadOn r.name r.place asks (read_to after.reader)) (sym is) on))

-- Sessions before their first turn have read nothing.
pub none_read : {G : Type 0} (number : ℕ) (names : List (List ℕ)) (guards : List G) (sessions : List (Session G)) → AreNew number names guards sessions → read_by sessions ≡ map unread names
none_read number [] [] [] new = refl
none_read number [] [] (s ∷ sessions) new = absurd new
none_read number [] (own ∷ guards) sessions new = absurd new
none_read number (name ∷ names) [] sessions new = absurd new
none_read number (name ∷ names) (own ∷ guards) [] new = absurd new
none_read number (name ∷ names) (own ∷ guards) (s ∷ sessions) new =
    let first = ap file_of new.0.reader in
    let rest = none_read (number + 1) names guards sessions new.1 in
    (λ i. first i ∷ rest i)

-- So all of their turns read each file once.
pub all_asked : {G : Type 0} (number : ℕ) (names : List (List ℕ)) (guards : List G) (sessions after : List (Session G)) → AreNew number names guards sessions
    → (asks : List Ask) → AreReadInTurn (read_by sessions) asks (read_by after) → AreReadInTurns names asks
all_asked number names guards sessions after new asks on = (read_by after, subst (λ (l : List ReadTo). AreReadInTurn l asks (read_by after)) (none_read number names guards sessions new) on)
