-- What is kept of the commands of a file, one after the other: how judging goes on behind them, what
-- they did to contents, and with END the fates.
use Rattle.std.specs.Prelude.{◌≡◌, ℕ, ◌+◌, Bool, true, false, ◌&&◌, ◌||◌, List, [], ◌∷◌, ◌++◌, map, length, Option, None, Some, Ok, is_some, if◌then◌else◌}
use Rattle.std.specs.List.{list_any, AllByRecursion}
use Rattle.std.proofs.Common.{refl, sym, ap, ap₂, subst, ◌∙◌, arith, append_assoc, append-nil, length-append}
use Rattle.std.proofs.lemmas.Bool.{or_parts}
use Rattle.std.proofs.lemmas.List.{map-append}
use Rattle.std.proofs.lemmas.List.Folds.{list_any-append}
use Rattle.send_model.specs.Refusal.{NotConsecutive, NoSubvolume}
use Rattle.send_model.specs.Command.{Command, End}
use Rattle.send_model.specs.Reading.{Item, Verdict, is_version}
use Rattle.send_model.specs.Store.{Head, Store, Part, State, Stepped, head_of, step, begun, completed, entered, edited, edit_part, step_head}
use Rattle.send_model.specs.Receive.{bytes_of, byte_cells, start_of, verdict_of}
use Rattle.send_model.specs.Order.{heads, heads_of, onto_heads, commands_of, then_judge, last_item}
use Rattle.send_model.specs.Counts.{is_end}
use Rattle.send_model.specs.Laws.{CanWrite}
use Rattle.send_model.specs.Cells.{recelled_state, recelled_step}
use Rattle.send_model.proofs.CellClones.{all_steps-cells}
use Rattle.send_model.proofs.Writing.{heads_of-append}
use Rattle.send_model.proofs.Merging.{entered_taken, edited_taken}
use Rattle.send_model.proofs.Sorts.{head_step}
use Rattle.squash_model.specs.SquashJudge as due
use Rattle.squash_model.specs.SquashJudge.{nothing_passed, passed_with, is_second, judge_one}
use Rattle.squash_model.specs.Liveness.{all_live}
use Rattle.squash_model.proofs.SameSquash.{inner_step, inner_refused}
use Rattle.squash_log.specs.declared.change.Change.{Change}
use Rattle.squash_log.specs.Fates.{Fate, fates_of}
use Rattle.squash_log.specs.Resolved.{blank_step, blank_end, blank_start, changes_at, changes_by}
use Rattle.squasher.specs.Judging.{passed_meant, nothing_yet, Sight, fates_by, IsTaken}

abbrev pub Blank : Type 0
Blank = Unit {0}

abbrev pub nothing_of : ℕ → Blank
nothing_of byte = tt

-- ---- judging over cells that carry nothing

unfoldable pub judge_blank : State Blank → due.Passed → List Item → Option Verdict
judge_blank state passed [] = None
judge_blank state passed (item ∷ items) =
    then_judge item (blank_step state item.command) (is_second passed item)
    (judge_blank (blank_step state item.command).state (passed_with passed item) items)

same_judge : (items : List Item) (s : State ℕ) (p : due.Passed) → judge_one s p items ≡ judge_blank (recelled_state nothing_of s) p items
unfolding judge_one judge_blank
same_judge [] s p = refl
same_judge (item ∷ items) s p =
    let next : Stepped ℕ = step 0 (byte_cells item) s item.command in
    let same : blank_step (recelled_state nothing_of s) item.command ≡ recelled_step nothing_of next = all_steps-cells nothing_of item.command 0 (byte_cells item) s in
    ap (λ (rest : Option Verdict). then_judge item next (is_second p item) rest) (same_judge items next.state (passed_with p item))
    ∙ ap (λ (x : Stepped Blank). then_judge item x (is_second p item) (judge_blank x.state (passed_with p item) items)) (sym same)

-- Over a base, from the start on.
pub judged_blank : (base : Store ℕ) (items : List Item) → judge_one (start_of base) nothing_passed items ≡ judge_blank (blank_start base) nothing_passed items
judged_blank base items = same_judge items (start_of base) nothing_passed

judged_on : (now next : State Blank) (p : due.Passed) (item : Item) (more : List Item) → blank_step now item.command ≡ record { state = next; refusal = None } → is_second p item ≡ false
    → judge_blank now p (item ∷ more) ≡ judge_blank next (passed_with p item) more
unfolding judge_blank
judged_on now next p item more e f =
    ap (λ (x : Stepped Blank). then_judge item x (is_second p item) (judge_blank x.state (passed_with p item) more)) e
    ∙ ap (λ (b : Bool). if b then Some (verdict_of item NotConsecutive) else judge_blank next (passed_with p item) more) f

judged_none : (now : State Blank) (p : due.Passed) → judge_blank now p [] ≡ None
unfolding judge_blank
judged_none now p = refl

judged_stop : (now : State Blank) (p : due.Passed) (item : Item) (more : List Item) (verdict : Verdict)
    → ((rest : Option Verdict) → then_judge item (blank_step now item.command) (is_second p item) rest ≡ Some verdict) → judge_blank now p (item ∷ more) ≡ Some verdict
unfolding judge_blank
judged_stop now p item more verdict says = says (judge_blank (blank_step now item.command).state (passed_with p item) more)

-- ---- what is kept

-- So many heads.
abbrev pub HeadsAre : Bool → List Head → Type 0
HeadsAre true hs = (head : Head) × (hs ≡ head ∷ [])
HeadsAre false hs = hs ≡ []

-- Before END.
pub record IsOpen (start : State Blank) (items : List Item) (now : Sight) : Type 0 where
  pub none : now.fates ≡ None
  pub begins : now.passed.begun ≡ is_some now.state.part
  pub heads_are : HeadsAre now.passed.begun (heads items)
  pub no_end : list_any is_end (commands_of items) ≡ false
  pub logged : (cs : List Command) → changes_by start (commands_of items ++ cs) ≡ now.log ++ changes_by now.state cs
  pub led : (cs : List Command) → blank_end start (commands_of items ++ cs) ≡ blank_end now.state cs

-- Behind END.
pub record IsClosed (start : State Blank) (file : ℕ) (items : List Item) (now : Sight) : Type 0 where
  pub front : List Command
  pub front_is : commands_of items ≡ front ++ End ∷ []
  pub no_end : list_any is_end front ≡ false
  pub heads_are : HeadsAre (is_some now.fates) (heads items)
  pub fates_are : (found : List Fate) → now.fates ≡ Some found → found ≡ fates_of (changes_by start front) (all_live (blank_end start front).part)
  pub last : Item
  pub last_is : last_item items ≡ Some last
  pub file_is : last.file ≡ file
  pub number_is : last.number ≡ now.passed.number
  pub offset_is : last.offset ≡ now.passed.offset

abbrev pub Stage : State Blank → ℕ → List Item → Sight → Bool → Type 0
Stage start file items now true = IsClosed start file items now
Stage start file items now false = IsOpen start items now

pub record Keeps (file : ℕ) (start : State Blank) (items : List Item) (now : Sight) : Type 0 where
  pub judged : (more : List Item) → judge_blank start nothing_passed (items ++ more) ≡ judge_blank now.state (passed_meant now.passed) more
  pub counted : now.passed.number ≡ length items
  pub version_fits : is_version now.passed.version ≡ true
  pub versions : AllByRecursion (λ item. item.version ≡ now.passed.version) items
  pub writable : AllByRecursion (λ item. CanWrite item.version item.command × (is_version item.version ≡ true)) items
  pub stage : Stage start file items now now.passed.closed

-- ---- at the start

abbrev pub first_sight : State Blank → Sight
first_sight start = record { state = start; log = []; fates = None; passed = nothing_yet }

no_heads : heads [] ≡ []
unfolding heads_of
no_heads = refl

pub keeps_at_start : (file : ℕ) (store : Store Blank) → Keeps file (start_of store) [] (first_sight (start_of store))
keeps_at_start file store = record {
  judged = λ more. refl;
  counted = refl;
  version_fits = refl;
  versions = tt;
  writable = tt;
  stage = record { none = refl; begins = refl; heads_are = no_heads; no_end = refl; logged = λ cs. refl; led = λ cs. refl };
}

-- ---- one more command

-- What a command that is not END and is taken finds and leaves.
record HasPart (old new : State Blank) (c : Command) : Type 0 where
  there : is_some new.part ≡ true
  before : head_of c ≡ None → is_some old.part ≡ true

module _ (c : Command) (inner : is_end c ≡ false) where
  abbrev cells : List Blank
  cells = map (λ byte. tt) (bytes_of c)

  after_head : (old new : State Blank) (h : Head) → head_of c ≡ Some h → blank_step old c ≡ record { state = new; refusal = None } → HasPart old new c
  unfolding step_head
  after_head old new h is e =
      let s : step_head old h ≡ record { state = new; refusal = None } = sym (head_step tt cells old c h is) ∙ e in
      let ok = entered_taken (completed old) h (begun (completed old) h) (ap (λ (x : Stepped Blank). x.refusal) s) in
      let t : entered (completed old) h (Ok ok.0) ≡ record { state = new; refusal = None } = ap (entered (completed old) h) (sym ok.1) ∙ s in
      record {
        there = sym (ap (λ (x : Stepped Blank). is_some x.state.part) t);
        before = λ n. let clash : Some h ≡ None = sym is ∙ n in cc;
      }

  after_edit : (old new : State Blank) → head_of c ≡ None → blank_step old c ≡ record { state = new; refusal = None } → HasPart old new c
  after_edit old new h e = one old.part refl
    where
      at : (o : Option (Part Blank)) → old.part ≡ o → step tt cells (record { store = old.store; part = o }) c ≡ record { state = new; refusal = None }
      at o p = subst (λ (x : Option (Part Blank)). step tt cells (record { store = old.store; part = x }) c ≡ record { state = new; refusal = None }) p e

      one : (o : Option (Part Blank)) → old.part ≡ o → HasPart old new c
      one None p = let clash : Some NoSubvolume ≡ None = sym (inner_refused tt cells old.store c inner h) ∙ ap (λ (x : Stepped Blank). x.refusal) (at None p) in cc
      one (Some part) p =
          let r = edit_part tt cells old.store part c in
          let s : edited old.store part r ≡ record { state = new; refusal = None } = sym (inner_step tt cells old.store part c inner h) ∙ at (Some part) p in
          let ok = edited_taken old.store part r (ap (λ (x : Stepped Blank). x.refusal) s) in
          let t : edited old.store part (Ok ok.0) ≡ record { state = new; refusal = None } = ap (edited old.store part) (sym ok.1) ∙ s in
          record {
            there = sym (ap (λ (x : Stepped Blank). is_some x.state.part) t);
            before = λ n. ap (λ (x : Option (Part Blank)). is_some x) p;
          }

  has_part : (old new : State Blank) → blank_step old c ≡ record { state = new; refusal = None } → HasPart old new c
  has_part old new e = one (head_of c) refl
    where
      one : (o : Option Head) → head_of c ≡ o → HasPart old new c
      one None h = after_edit old new h e
      one (Some head) h = after_head old new head h e

-- Behind more commands.
more_commands : (items : List Item) (item : Item) → commands_of (items ++ item ∷ []) ≡ commands_of items ++ item.command ∷ []
more_commands items item = map-append (λ (i : Item). i.command) items (item ∷ [])

then_commands : (items : List Item) (item : Item) (cs : List Command) → commands_of (items ++ item ∷ []) ++ cs ≡ commands_of items ++ (item.command ∷ cs)
then_commands items item cs = ap (λ (l : List Command). l ++ cs) (more_commands items item) ∙ append_assoc (commands_of items) (item.command ∷ []) cs

more_heads : (items : List Item) (item : Item) → heads (items ++ item ∷ []) ≡ heads items ++ onto_heads (head_of item.command) []
unfolding heads_of
more_heads items item = ap heads_of (more_commands items item) ∙ heads_of-append (commands_of items) (item.command ∷ [])

or_false : (b : Bool) → (b || false) ≡ b
or_false true = refl
or_false false = refl

or_true : (b : Bool) → (b || true) ≡ true
or_true true = refl
or_true false = refl

and_left : (b : Bool) → (b && true) ≡ false → b ≡ false
and_left true e = e
and_left false e = refl

pub last_behind : (items : List Item) (item : Item) → last_item (items ++ item ∷ []) ≡ Some item
last_behind [] item = refl
last_behind (i ∷ []) item = refl
last_behind (i ∷ next ∷ items) item = last_behind (next ∷ items) item

all_snoc : (P : Item → Type 0) (items : List Item) (item : Item) → AllByRecursion P items → P item → AllByRecursion P (items ++ item ∷ [])
all_snoc P [] item all p = (p, tt)
all_snoc P (i ∷ items) item all p = (all.0, all_snoc P items item all.1 p)

module _ (start : State Blank) (file : ℕ) (items : List Item) (now next : Sight) (item : Item) (o : IsOpen start items now) (t : IsTaken now next item) where
  step_is : blank_step now.state item.command ≡ record { state = next.state; refusal = None }
  step_is = let s = t.step in s.stepped

  state_is : (blank_step now.state item.command).state ≡ next.state
  state_is = ap (λ (x : Stepped Blank). x.state) step_is

  begun_is : next.passed.begun ≡ (now.passed.begun || is_some (head_of item.command))
  begun_is = let s = t.step in ap (λ (p : due.Passed). p.begun) s.passed

  second_is : (now.passed.closed || (now.passed.begun && is_some (head_of item.command))) ≡ false
  second_is = let s = t.step in s.first

  -- A second head was not taken.
  heads_then : (h : Option Head) → head_of item.command ≡ h → (b : Bool) → now.passed.begun ≡ b → HeadsAre b (heads items) → HeadsAre (b || is_some h) (heads items ++ onto_heads h [])
  heads_then None e true p hs = (hs.0, append-nil (heads items) ∙ hs.1)
  heads_then None e false p hs = append-nil (heads items) ∙ hs
  heads_then (Some head) e true p hs =
      let two = (or_parts now.passed.closed (now.passed.begun && is_some (head_of item.command)) second_is).1 in
      let clash : true ≡ false = sym (ap₂ (λ (x : Bool) (y : Option Head). x && is_some y) p e) ∙ two in cc
  heads_then (Some head) e false p hs = (head, ap (λ (l : List Head). l ++ head ∷ []) hs)

  heads_now : HeadsAre next.passed.begun (heads (items ++ item ∷ []))
  heads_now =
      let here = heads_then (head_of item.command) refl now.passed.begun refl o.heads_are in
      subst (λ (b : Bool). HeadsAre b (heads (items ++ item ∷ []))) (sym begun_is)
      (subst (λ (l : List Head). HeadsAre (now.passed.begun || is_some (head_of item.command)) l) (sym (more_heads items item)) here)

  module _ (inner : is_end item.command ≡ false) where
    parts : HasPart now.state next.state item.command
    parts = has_part item.command inner now.state next.state step_is

    begun_now : (h : Option Head) → head_of item.command ≡ h → (now.passed.begun || is_some h) ≡ true
    begun_now None e = let p = parts in ap (λ (b : Bool). b || false) (o.begins ∙ p.before e)
    begun_now (Some head) e = or_true now.passed.begun

    open_on : IsOpen start (items ++ item ∷ []) next
    open_on = record {
      none = t.before_end inner ∙ o.none;
      begins = let p = parts in begun_is ∙ begun_now (head_of item.command) refl ∙ sym p.there;
      heads_are = heads_now;
      no_end = ap (list_any is_end) (more_commands items item) ∙ list_any-append is_end (commands_of items) (item.command ∷ [])
          ∙ ap₂ (λ (x y : Bool). x || (y || false)) o.no_end inner;
      logged = λ cs.
          ap (changes_by start) (then_commands items item cs) ∙ o.logged (item.command ∷ cs)
          ∙ sym (append_assoc now.log (changes_at now.state.part item.command) (changes_by (blank_step now.state item.command).state cs))
          ∙ ap₂ (λ (l : List Change) (s : State Blank). l ++ changes_by s cs) (sym (t.logged inner)) state_is;
      led = λ cs. ap (blank_end start) (then_commands items item cs) ∙ o.led (item.command ∷ cs) ∙ ap (λ (s : State Blank). blank_end s cs) state_is;
    }

  module _ (last : is_end item.command ≡ true) (file_is : item.file ≡ file) where
    end_is : (c : Command) → is_end c ≡ true → c ≡ End
    end_is End e = refl
    end_is c e = cc

    here : item.command ≡ End
    here = end_is item.command last

    no_head : head_of item.command ≡ None
    no_head = ap head_of here

    logged_now : now.log ≡ changes_by start (commands_of items)
    logged_now = sym (append-nil now.log) ∙ sym (o.logged []) ∙ ap (changes_by start) (append-nil (commands_of items))

    led_now : blank_end start (commands_of items) ≡ now.state
    led_now = ap (blank_end start) (sym (append-nil (commands_of items))) ∙ o.led []

    some_fates : (p : Option (Part Blank)) → is_some (fates_by p now.log None) ≡ is_some p
    some_fates None = refl
    some_fates (Some part) = refl

    fates_then : (p : Option (Part Blank)) (found : List Fate) → fates_by p now.log None ≡ Some found → found ≡ fates_of now.log (all_live p)
    fates_then None found e = cc
    fates_then (Some part) found e = cc

    fates_now : next.fates ≡ fates_by now.state.part now.log None
    fates_now = t.at_end last ∙ ap (fates_by now.state.part now.log) o.none

    some_now : next.passed.begun ≡ is_some next.fates
    some_now = begun_is ∙ ap (λ (h : Option Head). now.passed.begun || is_some h) no_head ∙ or_false now.passed.begun ∙ o.begins
        ∙ sym (some_fates now.state.part) ∙ sym (ap (λ (f : Option (List Fate)). is_some f) fates_now)

    closed_on : IsClosed start file (items ++ item ∷ []) next
    closed_on = let s = t.step in record {
      front = commands_of items;
      front_is = more_commands items item ∙ ap (λ (x : Command). commands_of items ++ x ∷ []) here;
      no_end = o.no_end;
      heads_are = subst (λ (b : Bool). HeadsAre b (heads (items ++ item ∷ []))) some_now heads_now;
      fates_are = λ found e.
          fates_then now.state.part found (sym fates_now ∙ e)
          ∙ ap₂ (λ (l : List Change) (x : State Blank). fates_of l (all_live x.part)) logged_now (sym led_now);
      last = item;
      last_is = last_behind items item;
      file_is = file_is;
      number_is = sym s.number;
      offset_is = sym s.offset;
    }

pub keeps_on : (file : ℕ) (start : State Blank) (items : List Item) (now next : Sight) (item : Item) → Keeps file start items now → IsTaken now next item
    → item.file ≡ file → item.number ≡ length items + 1 → is_version item.version ≡ true → CanWrite item.version item.command → AllByRecursion (λ i. i.version ≡ item.version) items
    → Keeps file start (items ++ item ∷ []) next
keeps_on file start items now next item k t file_is number_is fits write same =
    let s = t.step in
    let unclosed = (or_parts now.passed.closed (now.passed.begun && is_some (head_of item.command)) s.first).0 in
    let o : IsOpen start items now = subst (λ (b : Bool). Stage start file items now b) unclosed k.stage in
    let closes : next.passed.closed ≡ is_end item.command = ap (λ (p : due.Passed). p.closed) s.passed ∙ ap (λ (b : Bool). b || is_end item.command) unclosed in
    record {
      judged = λ more.
          ap (judge_blank start nothing_passed) (append_assoc items (item ∷ []) more) ∙ k.judged (item ∷ more)
          ∙ judged_on now.state next.state (passed_meant now.passed) item more s.stepped s.first
          ∙ ap (λ (p : due.Passed). judge_blank next.state p more) (sym s.passed);
      counted = omega (arith, s.number, number_is, length-append items (item ∷ []));
      version_fits = ap is_version s.version ∙ fits;
      versions = subst (λ (v : ℕ). AllByRecursion (λ i. i.version ≡ v) (items ++ item ∷ [])) (sym s.version) (all_snoc (λ i. i.version ≡ item.version) items item same refl);
      writable = all_snoc (λ i. CanWrite i.version i.command × (is_version i.version ≡ true)) items item k.writable (write, fits);
      stage = subst (λ (b : Bool). Stage start file (items ++ item ∷ []) next b) (sym closes) (stage_on o (is_end item.command) refl);
    }
  where
    stage_on : IsOpen start items now → (b : Bool) → is_end item.command ≡ b → Stage start file (items ++ item ∷ []) next b
    stage_on o true e = closed_on start file items now next item o t e file_is
    stage_on o false e = open_on start file items now next item o t e

-- ---- the verdict

-- Behind all that was taken nothing is due.
pub keeps_whole : (file : ℕ) (start : State Blank) (items : List Item) (now : Sight) → Keeps file start items now → judge_blank start nothing_passed items ≡ None
keeps_whole file start items now k = ap (judge_blank start nothing_passed) (sym (append-nil items)) ∙ k.judged [] ∙ judged_none now.state (passed_meant now.passed)

-- A command that is not taken is refused, whatever comes behind it.
pub keeps_refused : (file : ℕ) (start : State Blank) (items more : List Item) (now : Sight) (item : Item) (verdict : Verdict) → Keeps file start items now
    → ((rest : Option Verdict) → then_judge item (blank_step now.state item.command) (is_second (passed_meant now.passed) item) rest ≡ Some verdict)
    → judge_blank start nothing_passed (items ++ item ∷ more) ≡ Some verdict
keeps_refused file start items more now item verdict k says = k.judged (item ∷ more) ∙ judged_stop now.state (passed_meant now.passed) item more verdict says
