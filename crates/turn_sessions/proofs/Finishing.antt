-- A session that goes on to its end.
use Rattle.std.specs.Prelude.{◌≡◌, ℕ, zero, suc, ◌<◌, true, false, List, [], ◌∷◌, ◌++◌, length, replicate, Option, None, Some, slice_get}
use Rattle.std.proofs.Common.{refl, sym, ap, subst, ◌∙◌, arith, append-nil}
use Rattle.sx_base.specs.Calls.{IfAllTold, contents}
use Rattle.sx_base.specs.declared.disk.Disk as keeping
use Rattle.sx_base.specs.declared.outcome.Verdict.{Verdict}
use Rattle.send_model.specs.Guards.{Guard}
use Rattle.store_model.specs.Turns as meant
use Rattle.store_model.specs.Turns.{Turn, Turns, after_turn, one_turn, after_turns, session_turn}
use Rattle.store_model.specs.TurnDues.{which_long, TurnsEnd}
use Rattle.store_model.proofs.TurnOvers.{turn_at, over_rests, over_ends}
use Rattle.store_journal.specs.Shown.{StoreState}
use Rattle.turn_sessions.specs.declared.session.Session.{Session}
use Rattle.turn_sessions.specs.Standing.{Blank, blank_cells, IsSession}
use Rattle.turn_sessions.specs.Turning.{bytes_left}
use Rattle.turn_sessions.specs.Going.{AreShorter, FewerLeft, HasFewer}
use Rattle.turn_sessions.proofs.Unpacked.{IsGoing}
use Rattle.turn_sessions.proofs.GoingOn.{turn_less, turn_shorter}
use Rattle.turn_sessions.proofs.Sessions.{session_at, shorter_with, shorter_at}
use Rattle.turn_sessions.proofs.Turnings.{get_with}

inside : {A : Type 0} {x y : A} → Some x ≡ Some y → x ≡ y
inside q = cc

-- A turn of a session that is not over leaves it less to read.
pub fewer_next : (w : Turns Blank) (n k : ℕ) (s : meant.Session Blank) → slice_get w.sessions n ≡ Some s → s.is_over ≡ false → HasFewer w n (suc k) → HasFewer (one_turn tt blank_cells w n) n k
fewer_next w n k s at going fewer z is still =
    let t : Turn Blank = session_turn tt blank_cells w.store s in
    let there : slice_get (one_turn tt blank_cells w n).sessions n ≡ Some t.session = ap (λ (v : Turns Blank). slice_get v.sessions n) (turn_at tt blank_cells w n s at) ∙ get_with w.sessions n s t.session at in
    let same : z ≡ t.session = inside (sym is ∙ there) in
    let less = turn_less w.store s going (ap (λ (y : meant.Session Blank). y.is_over) (sym same) ∙ still) in
    let had : length s.items < suc k = fewer s at going in
    omega (arith, ap (λ (y : meant.Session Blank). length y.items) same, less, had)

-- How many bytes the session at a place may still read.
abbrev pub left_at_place : {G : Type 0} → List (Session G) → ℕ → ℕ
left_at_place sessions n = elim (slice_get sessions n) as (λ o. ℕ) [ None ↦ 0 | Some session ↦ bytes_left session ]

pub less_at : {G : Type 0} (old new : List (Session G)) (n : ℕ) (session : Session G) → slice_get old n ≡ Some session → session.is_over ≡ false → FewerLeft n old new → left_at_place new n < left_at_place old n
less_at old new n session at going fewer =
    let f = fewer session at going in
    let now : left_at_place new n ≡ bytes_left f.0 = ap (λ (o : Option (Session _)). elim o as (λ x. ℕ) [ None ↦ 0 | Some s ↦ bytes_left s ]) f.1 in
    let was : left_at_place old n ≡ bytes_left session = ap (λ (o : Option (Session _)). elim o as (λ x. ℕ) [ None ↦ 0 | Some s ↦ bytes_left s ]) at in
    let less : bytes_left f.0 < bytes_left session = f.2 in
    omega (arith, now, was, less)

-- Turns leave no session more to read.
pub turns_shorter : (first : List (meant.Session Blank)) (turns : List ℕ) (w : Turns Blank) → AreShorter first w.sessions → AreShorter first (after_turns tt blank_cells w turns).sessions
unfolding after_turns one_turn
turns_shorter first [] w a = a
turns_shorter first (n ∷ turns) w a = turns_shorter first turns (one_turn tt blank_cells w n) (one (slice_get w.sessions n) refl)
  where
    one : (o : Option (meant.Session Blank)) → slice_get w.sessions n ≡ o
        → AreShorter first (elim o as (λ x. Turns Blank) [ None ↦ w | Some s ↦ after_turn w n (session_turn tt blank_cells w.store s) ]).sessions
    one None e = a
    one (Some s) e = shorter_with first w.sessions n s (session_turn tt blank_cells w.store s).session a e (turn_shorter w.store s)

-- So a session never has more to read than one turn for each of its items, and one for the end.
pub has_fewer : (first : List (meant.Session Blank)) (turns : List ℕ) (w : Turns Blank) (n : ℕ) (f : meant.Session Blank) → AreShorter first w.sessions → slice_get first n ≡ Some f → HasFewer (after_turns tt blank_cells w turns) n (suc (length f.items))
has_fewer first turns w n f a at s there going =
    let less = shorter_at first (after_turns tt blank_cells w turns).sessions n f s (turns_shorter first turns w a) at there in
    omega (arith, less)

pub some_at : {A : Type 0} (xs : List A) (n : ℕ) → n < length xs → (x : A) × (slice_get xs n ≡ Some x)
some_at [] n lt = absurd (omega (arith, lt))
some_at (x ∷ xs) zero lt = (x, refl)
some_at (x ∷ xs) (suc n) lt = some_at xs n (omega (arith, lt))

-- Turns of one session that are left, behind some first ones.
abbrev pub Further : ℕ → Turns Blank → ℕ → (Turns Blank → ℕ → Type 0) → Type 0
Further n w turns B = (v : Turns Blank) × (k : ℕ) × HasFewer v n k × (after_turns tt blank_cells v (replicate k n) ≡ after_turns tt blank_cells w (replicate turns n)) × B v k

module _ {D : Type 0} (ghosts : keeping.Ghosts D)
    (start : D) (was : StoreState) (begun : Option (List ℕ)) {G : Type 0} (kept : G → List Guard) (end : TurnsEnd) (last : Turns Blank) where
  abbrev pub GoesAt : D → StoreState → Option (List ℕ) → Option Verdict → List (Session G) → List (List ℕ) → Turns Blank → List ℕ → Type 0
  GoesAt disk store out refused sessions files w rest = IsGoing ghosts start disk was store begun out kept files w end last rest refused sessions

  module _ (disk : D) (store : StoreState) (out : Option (List ℕ)) (refused : Option Verdict) (sessions : List (Session G)) (n : ℕ) (session : Session G) (at : slice_get sessions n ≡ Some session) (rest : List ℕ) where
    -- the session of the definitions
    its_own : (files : List (List ℕ)) (v : Turns Blank) (l : List ℕ) → GoesAt disk store out refused sessions files v l → (s : meant.Session Blank) × (slice_get v.sessions n ≡ Some s) × IsSession kept s session
    its_own files v l x = session_at kept v.sessions sessions n session x.taking.sessions_are at

    -- It is over, so the turns that are left do nothing.
    over_now : (files : List (List ℕ)) (w : Turns Blank) (turns : ℕ) → session.is_over ≡ true → Further n w turns (λ v k. GoesAt disk store out refused sessions files v (replicate k n ++ rest))
        → GoesAt disk store out refused sessions files (after_turns tt blank_cells w (replicate turns n)) rest
    unfolding after_turns
    over_now files w turns over (v, k, fewer, leads, x) =
        let s = its_own files v (replicate k n ++ rest) x in
        let s_over : s.0.is_over ≡ true = s.2.over ∙ over in
        let rests : after_turns tt blank_cells v (replicate k n) ≡ v = ap (after_turns tt blank_cells v) (sym (append-nil (replicate k n))) ∙ over_rests tt blank_cells k v n s.0 [] s.1 s_over in
        subst (λ (y : Turns Blank). GoesAt disk store out refused sessions files y rest) (sym rests ∙ leads) (record {
          taking = x.taking;
          from = x.from;
          refused_is = x.refused_is;
          have_left = x.have_left;
          ends = x.ends ∙ over_ends tt blank_cells was.log.limit (which_long 1 files) k store.log.gate v n s.0 rest s.1 s_over;
          runs = x.runs ∙ over_rests tt blank_cells k v n s.0 rest s.1 s_over;
          done = x.done;
        })

    module _ (names : List (List ℕ)) (A : List (List ℕ) → Type 0) (w : Turns Blank) (turns : ℕ) where
      abbrev Before : List (List ℕ) → Type 0
      Before files = A files → Further n w turns (λ v k. GoesAt disk store out refused sessions files v (replicate k n ++ rest))

      pub finished : (told : Option (List (List ℕ × List ℕ))) → session.is_over ≡ true → IfAllTold told names Before → IfAllTold told names (λ files. A files → GoesAt disk store out refused sessions files (after_turns tt blank_cells w (replicate turns n)) rest)
      finished None over f = tt
      finished (Some table) over f = λ a. over_now (contents table names) w turns over (f a)

      -- It is not, so a turn is left.
      going_now : (files : List (List ℕ)) → session.is_over ≡ false → Further n w turns (λ v k. GoesAt disk store out refused sessions files v (replicate k n ++ rest))
          → (v : Turns Blank) × (k : ℕ) × HasFewer (one_turn tt blank_cells v n) n k × (after_turns tt blank_cells (one_turn tt blank_cells v n) (replicate k n) ≡ after_turns tt blank_cells w (replicate turns n)) × GoesAt disk store out refused sessions files v (n ∷ (replicate k n ++ rest))
      unfolding after_turns
      going_now files going (v, zero, fewer, leads, x) =
          let s = its_own files v (replicate zero n ++ rest) x in
          let none : length s.0.items < 0 = fewer s.0 s.1 (s.2.over ∙ going) in
          absurd (omega (arith, none))
      going_now files going (v, suc k, fewer, leads, x) =
          let s = its_own files v (replicate (suc k) n ++ rest) x in
          (v, k, fewer_next v n k s.0 s.1 (s.2.over ∙ going) fewer, leads, x)

      module _ (told now : Option (List (List ℕ × List ℕ))) (same : now ≡ told) (going : session.is_over ≡ false) where
        -- It goes on.
        pub goes_further : (B : List (List ℕ) → Turns Blank → ℕ → Type 0) → IfAllTold told names Before
            → ((v : Turns Blank) (k : ℕ) → IfAllTold now names (λ files. GoesAt disk store out refused sessions files v (n ∷ (replicate k n ++ rest)) → B files (one_turn tt blank_cells v n) k))
            → IfAllTold told names (λ files. A files → Further n w turns (B files))
        goes_further B first next = one told first (subst (λ (t : Option (List (List ℕ × List ℕ))). (v : Turns Blank) (k : ℕ) → IfAllTold t names (λ files. GoesAt disk store out refused sessions files v (n ∷ (replicate k n ++ rest)) → B files (one_turn tt blank_cells v n) k)) same next)
          where
            one : (t : Option (List (List ℕ × List ℕ))) → IfAllTold t names Before
                → ((v : Turns Blank) (k : ℕ) → IfAllTold t names (λ files. GoesAt disk store out refused sessions files v (n ∷ (replicate k n ++ rest)) → B files (one_turn tt blank_cells v n) k))
                → IfAllTold t names (λ files. A files → Further n w turns (B files))
            one None p q = tt
            one (Some table) p q = λ a. let f = going_now (contents table names) going (p a) in (one_turn tt blank_cells f.0 n, f.1, f.2, f.3, q f.0 f.1 f.4)

        -- All turns stop.
        pub stops_there : (E : List (List ℕ) → Type 0) → IfAllTold told names Before
            → ((v : Turns Blank) (k : ℕ) → IfAllTold now names (λ files. GoesAt disk store out refused sessions files v (n ∷ (replicate k n ++ rest)) → E files))
            → IfAllTold told names (λ files. A files → E files)
        stops_there E first next = one told first (subst (λ (t : Option (List (List ℕ × List ℕ))). (v : Turns Blank) (k : ℕ) → IfAllTold t names (λ files. GoesAt disk store out refused sessions files v (n ∷ (replicate k n ++ rest)) → E files)) same next)
          where
            one : (t : Option (List (List ℕ × List ℕ))) → IfAllTold t names Before
                → ((v : Turns Blank) (k : ℕ) → IfAllTold t names (λ files. GoesAt disk store out refused sessions files v (n ∷ (replicate k n ++ rest)) → E files))
                → IfAllTold t names (λ files. A files → E files)
            one None p q = tt
            one (Some table) p q = λ a. let f = going_now (contents table names) going (p a) in q f.0 f.1 f.4

pub begins_further : (told : Option (List (List ℕ × List ℕ))) (names : List (List ℕ)) (n : ℕ) (w : Turns Blank) (turns : ℕ) (B : List (List ℕ) → Turns Blank → ℕ → Type 0) → HasFewer w n turns → IfAllTold told names (λ files. B files w turns → Further n w turns (B files))
begins_further None names n w turns B fewer = tt
begins_further (Some table) names n w turns B fewer = λ b. (w, turns, fewer, refl, b)
