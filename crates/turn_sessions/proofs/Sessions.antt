-- Sessions in a list, one of which changes.
use Rattle.std.specs.Prelude.{◌≡◌, ℕ, zero, suc, ◌+◌, ◌≤◌, false, List, [], ◌∷◌, length, Option, Some, slice_get, slice_set}
use Rattle.std.proofs.Common.{refl, sym, subst, arith}
use Rattle.send_model.specs.Guards.{Guard}
use Rattle.store_model.specs.Turns.{with_at}
use Rattle.store_model.specs.Turns as meant
use Rattle.turn_sessions.specs.declared.session.Session.{Session}
use Rattle.turn_sessions.specs.Standing.{Blank, IsSession, AreSessions}
use Rattle.turn_sessions.specs.Going.{IsReading, AreReading, HasLeft, HaveLeft, AreShorter}

module _ {G : Type 0} (kept : G → List Guard) where
  -- the session of the definitions at a place
  pub session_at : (ss : List (meant.Session Blank)) (sessions : List (Session G)) (n : ℕ) (session : Session G) → AreSessions kept ss sessions → slice_get sessions n ≡ Some session
      → (s : meant.Session Blank) × (slice_get ss n ≡ Some s) × IsSession kept s session
  session_at [] [] n session a e = cc
  session_at [] (c ∷ cs) n session a e = absurd a
  session_at (s ∷ ss) [] n session a e = absurd a
  session_at (s ∷ ss) (c ∷ cs) zero session a e = (s, refl, subst (λ (x : Session G). IsSession kept s x) (inside e) a.0)
    where
      inside : {A : Type 0} {x y : A} → Some x ≡ Some y → x ≡ y
      inside q = cc
  session_at (s ∷ ss) (c ∷ cs) (suc n) session a e = session_at ss cs n session a.1 e

  pub sessions_with : (ss : List (meant.Session Blank)) (sessions : List (Session G)) (n : ℕ) (s : meant.Session Blank) (session : Session G) → AreSessions kept ss sessions → IsSession kept s session
      → AreSessions kept (with_at n s ss) (slice_set sessions n session)
  unfolding with_at
  sessions_with [] [] n s session a is = tt
  sessions_with [] (c ∷ cs) n s session a is = absurd a
  sessions_with (x ∷ ss) [] n s session a is = absurd a
  sessions_with (x ∷ ss) (c ∷ cs) zero s session a is = (is, a.1)
  sessions_with (x ∷ ss) (c ∷ cs) (suc n) s session a is = (a.0, sessions_with ss cs n s session a.1 is)

module _ {G : Type 0} (told : Option (List (List ℕ × List ℕ))) where
  -- the file of a place: its number and its name
  pub record IsFile (number : ℕ) (names : List (List ℕ)) (n : ℕ) (session : Session G) : Type 0 where
    pub name : List ℕ
    pub there : slice_get names n ≡ Some name
    pub reading : IsReading told (number + n) name session

  pub reading_at : (number : ℕ) (names : List (List ℕ)) (sessions : List (Session G)) (n : ℕ) (session : Session G) → AreReading told number names sessions → slice_get sessions n ≡ Some session → IsFile number names n session
  reading_at number [] [] n session a e = cc
  reading_at number [] (c ∷ cs) n session a e = absurd a
  reading_at number (name ∷ names) [] n session a e = absurd a
  reading_at number (name ∷ names) (c ∷ cs) zero session a e = record {
    name = name;
    there = refl;
    reading = subst (λ (x : Session G). IsReading told (number + 0) name x) (inside e) (subst (λ (k : ℕ). IsReading told k name c) (omega arith) a.0);
  }
    where
      inside : {A : Type 0} {x y : A} → Some x ≡ Some y → x ≡ y
      inside q = cc
  reading_at number (name ∷ names) (c ∷ cs) (suc n) session a e =
      let r = reading_at (number + 1) names cs n session a.1 e in
      let same : number + 1 + n ≡ number + suc n = omega arith in
      record { name = r.name; there = r.there; reading = subst (λ (k : ℕ). IsReading told k r.name session) same r.reading }

  -- After a turn of one of them.
  pub reading_with : (number : ℕ) (names : List (List ℕ)) (sessions : List (Session G)) (n : ℕ) (name : List ℕ) (session : Session G) → AreReading told number names sessions → slice_get names n ≡ Some name
      → IsReading told (number + n) name session → AreReading told number names (slice_set sessions n session)
  reading_with number [] [] n name session a e r = cc
  reading_with number [] (c ∷ cs) n name session a e r = absurd a
  reading_with number (x ∷ names) [] n name session a e r = absurd a
  reading_with number (x ∷ names) (c ∷ cs) zero name session a e r =
      (subst (λ (k : ℕ). IsReading told k x session) (omega arith) (subst (λ (y : List ℕ). IsReading told (number + 0) y session) (inside (sym e)) r), a.1)
    where
      inside : {A : Type 0} {x y : A} → Some x ≡ Some y → x ≡ y
      inside q = cc
  reading_with number (x ∷ names) (c ∷ cs) (suc n) name session a e r =
      let same : number + suc n ≡ number + 1 + n = omega arith in
      (a.0, reading_with (number + 1) names cs n name session a.1 e (subst (λ (k : ℕ). IsReading told k name session) same r))

module _ {G : Type 0} where
  -- what is left to one of them
  pub record IsLeft (number : ℕ) (files : List (List ℕ)) (ss : List (meant.Session Blank)) (n : ℕ) (session : Session G) : Type 0 where
    pub file : List ℕ
    pub there : slice_get files n ≡ Some file
    pub s : meant.Session Blank
    pub is : slice_get ss n ≡ Some s
    pub left_is : session.is_over ≡ false → HasLeft (number + n) file s session.reader

  pub left_at : (number : ℕ) (files : List (List ℕ)) (ss : List (meant.Session Blank)) (sessions : List (Session G)) (n : ℕ) (session : Session G) → HaveLeft number files ss sessions → slice_get sessions n ≡ Some session
      → IsLeft number files ss n session
  left_at number [] [] [] n session h e = cc
  left_at number [] [] (c ∷ cs) n session h e = absurd h
  left_at number [] (s ∷ ss) cs n session h e = absurd h
  left_at number (f ∷ files) [] cs n session h e = absurd h
  left_at number (f ∷ files) (s ∷ ss) [] n session h e = absurd h
  left_at number (f ∷ files) (s ∷ ss) (c ∷ cs) zero session h e =
      let same : number ≡ number + 0 = omega arith in
      record { file = f; there = refl; s = s; is = refl; left_is = subst (λ (x : Session G). x.is_over ≡ false → HasLeft (number + 0) f s x.reader) (inside e) (λ going. subst (λ (k : ℕ). HasLeft k f s c.reader) same (h.0 going)) }
    where
      inside : {A : Type 0} {x y : A} → Some x ≡ Some y → x ≡ y
      inside q = cc
  left_at number (f ∷ files) (s ∷ ss) (c ∷ cs) (suc n) session h e =
      let r = left_at (number + 1) files ss cs n session h.1 e in
      let same : number + 1 + n ≡ number + suc n = omega arith in
      record { file = r.file; there = r.there; s = r.s; is = r.is; left_is = λ going. subst (λ (k : ℕ). HasLeft k r.file r.s session.reader) same (r.left_is going) }

  pub left_with : (number : ℕ) (files : List (List ℕ)) (ss : List (meant.Session Blank)) (sessions : List (Session G)) (n : ℕ) (file : List ℕ) (s : meant.Session Blank) (session : Session G) → HaveLeft number files ss sessions → slice_get files n ≡ Some file
      → (session.is_over ≡ false → HasLeft (number + n) file s session.reader) → HaveLeft number files (with_at n s ss) (slice_set sessions n session)
  unfolding with_at
  left_with number [] [] [] n file s session h e l = cc
  left_with number [] [] (c ∷ cs) n file s session h e l = absurd h
  left_with number [] (x ∷ ss) cs n file s session h e l = absurd h
  left_with number (f ∷ files) [] cs n file s session h e l = absurd h
  left_with number (f ∷ files) (x ∷ ss) [] n file s session h e l = absurd h
  left_with number (f ∷ files) (x ∷ ss) (c ∷ cs) zero file s session h e l =
      let same : number + 0 ≡ number = omega arith in
      ((λ going. subst (λ (k : ℕ). HasLeft k f s session.reader) same (subst (λ (y : List ℕ). HasLeft (number + 0) y s session.reader) (inside (sym e)) (l going))), h.1)
    where
      inside : {A : Type 0} {x y : A} → Some x ≡ Some y → x ≡ y
      inside q = cc
  left_with number (f ∷ files) (x ∷ ss) (c ∷ cs) (suc n) file s session h e l =
      let same : number + suc n ≡ number + 1 + n = omega arith in
      (h.0, left_with (number + 1) files ss cs n file s session h.1 e (λ going. subst (λ (k : ℕ). HasLeft k file s session.reader) same (l going)))

pub shorter_with : (first ss : List (meant.Session Blank)) (n : ℕ) (s t : meant.Session Blank) → AreShorter first ss → slice_get ss n ≡ Some s → length t.items ≤ length s.items → AreShorter first (with_at n t ss)
unfolding with_at
shorter_with [] [] n s t a e less = tt
shorter_with [] (x ∷ ss) n s t a e less = absurd a
shorter_with (f ∷ first) [] n s t a e less = absurd a
shorter_with (f ∷ first) (x ∷ ss) zero s t a e less =
    let had : length s.items ≤ length f.items = subst (λ (y : meant.Session Blank). length y.items ≤ length f.items) (inside e) a.0 in
    (omega (arith, less, had), a.1)
  where
    inside : {A : Type 0} {x y : A} → Some x ≡ Some y → x ≡ y
    inside q = cc
shorter_with (f ∷ first) (x ∷ ss) (suc n) s t a e less = (a.0, shorter_with first ss n s t a.1 e less)

pub shorter_at : (first ss : List (meant.Session Blank)) (n : ℕ) (f s : meant.Session Blank) → AreShorter first ss → slice_get first n ≡ Some f → slice_get ss n ≡ Some s → length s.items ≤ length f.items
shorter_at [] ss n f s a e d = cc
shorter_at (x ∷ first) [] n f s a e d = absurd a
shorter_at (x ∷ first) (y ∷ ss) zero f s a e d = subst (λ (z : meant.Session Blank). length s.items ≤ length z.items) (inside e) (subst (λ (z : meant.Session Blank). length z.items ≤ length x.items) (inside d) a.0)
  where
    inside : {A : Type 0} {x y : A} → Some x ≡ Some y → x ≡ y
    inside q = cc
shorter_at (x ∷ first) (y ∷ ss) (suc n) f s a e d = shorter_at first ss n f s a.1 e d
