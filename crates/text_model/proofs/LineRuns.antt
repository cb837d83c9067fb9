-- Lines one after the other, with what may stand behind them: which are the first lines of lawful
-- streams.
use Rattle.std.specs.Prelude.{◌≡◌, ◌≢◌, ◌⊎◌, ℕ, ◌^◌, ◌<◌, Bool, true, false, List, [], ◌∷◌, ◌++◌, map, Option, None, Some, codes, if◌then◌else◌}
use Rattle.std.specs.List.{AllByRecursion}
use Rattle.std.specs.Fmt.{decimal}
use Rattle.std.proofs.Common.{inl, inr, ⊎_elim, refl, sym, ap, ap₂, subst, ◌∙◌, arith, append_assoc, append-nil}
use Rattle.std.proofs.lemmas.List.{append_cancel_left, append_cancel_right, map-append}
use Rattle.std.proofs.lemmas.Grind.{flat_map-append}
use Rattle.send_model.proofs.ElementLaws.{all_both}
use Rattle.send_model.proofs.Versions.{IsVersion}
use Rattle.send_model.proofs.Streams.{read_version, end_writable}
use Rattle.send_model.specs.Command.{Command, Subvol, Snapshot, MkFile, MkDir, MkNod, MkFifo, MkSock, Symlink, Rename, Link, Unlink, Rmdir, SetXattr, RemoveXattr, Write, Clone, Truncate, Chmod, Chown, Utimes, End, UpdateExtent, Fallocate, FileAttr}
use Rattle.send_model.specs.Reading.{is_version}
use Rattle.send_model.specs.Counts.{is_end}
use Rattle.send_model.specs.Lines.{stream_line}
use Rattle.send_model.specs.Laws.{CanWrite, AreInner}
use Rattle.text_model.specs.Texts.{Line, Header, Says, Stream, IsStream, AreStreams, line_text, stream_lines, lines_of_streams}
use Rattle.text_model.specs.LineOrder.{due_behind, due_after_line, due_after, IsDueLine, Runs}
use Rattle.text_model.specs.Packing.{BeginsText}
use Rattle.text_model.proofs.Glyphs.{digits_once, decimal_small}
use Rattle.text_model.proofs.OneReading.{line_once}

-- ---- lines behind each other

pub runs_join : (due : Option ℕ) (xs ys : List Line) → Runs due xs → Runs (due_after due xs) ys → Runs due (xs ++ ys)
runs_join due [] ys r s = s
runs_join due (x ∷ xs) ys r s = (r.0, runs_join (due_after_line x) xs ys r.1 s)

pub runs_first : (due : Option ℕ) (xs ys : List Line) → Runs due (xs ++ ys) → Runs due xs
runs_first due [] ys r = tt
runs_first due (x ∷ xs) ys r = (r.0, runs_first (due_after_line x) xs ys r.1)

pub runs_rest : (due : Option ℕ) (xs ys : List Line) → Runs due (xs ++ ys) → Runs (due_after due xs) ys
runs_rest due [] ys r = r
runs_rest due (x ∷ xs) ys r = runs_rest (due_after_line x) xs ys r.1

pub due_join : (due : Option ℕ) (xs ys : List Line) → due_after due (xs ++ ys) ≡ due_after (due_after due xs) ys
due_join due [] ys = refl
due_join due (x ∷ xs) ys = due_join (due_after_line x) xs ys

-- ---- streams

inner_runs : (version : ℕ) (cs : List Command) (more : List Line) → AreInner version cs → Runs (Some version) more → Runs (Some version) (map (Says version) cs ++ more)
inner_runs version [] more inner r = r
inner_runs version (c ∷ cs) more inner r =
    ((refl, inner.0.0), subst (λ (due : Option ℕ). Runs due (map (Says version) cs ++ more)) (sym (ap (λ (b : Bool). if b then None else Some version) inner.0.1)) (inner_runs version cs more inner.1 r))

inner_due : (version : ℕ) (cs : List Command) → AreInner version cs → due_after (Some version) (map (Says version) cs) ≡ Some version
inner_due version [] inner = refl
inner_due version (c ∷ cs) inner =
    ap (λ (b : Bool). due_after (if b then None else Some version) (map (Says version) cs)) inner.0.1 ∙ inner_due version cs inner.1

-- The lines of a stream's commands, END last.
ended_are : (version : ℕ) (cs : List Command) → map (Says version) (cs ++ End ∷ []) ≡ map (Says version) cs ++ Says version End ∷ []
ended_are version cs = map-append (Says version) cs (End ∷ [])

stream_runs : (s : Stream) → IsStream s → Runs None (stream_lines s)
stream_runs s is = (
  is.version,
  subst (λ (l : List Line). Runs (Some s.version) l) (sym (ended_are s.version s.commands))
      (inner_runs s.version s.commands (Says s.version End ∷ []) is.commands ((refl, end_writable s.version (read_version s.version is.version)), tt)),
)

stream_due : (s : Stream) → due_after None (stream_lines s) ≡ None
stream_due s = ap (due_after (Some s.version)) (ended_are s.version s.commands) ∙ due_join (Some s.version) (map (Says s.version) s.commands) (Says s.version End ∷ [])

pub streams_run : (streams : List Stream) → AllByRecursion IsStream streams → Runs None (lines_of_streams streams)
streams_run [] each = tt
streams_run (s ∷ streams) each =
    runs_join None (stream_lines s) (lines_of_streams streams) (stream_runs s each.0)
    (subst (λ (due : Option ℕ). Runs due (lines_of_streams streams)) (sym (stream_due s)) (streams_run streams each.1))

pub streams_due : (streams : List Stream) → due_after None (lines_of_streams streams) ≡ None
streams_due [] = refl
streams_due (s ∷ streams) =
    due_join None (stream_lines s) (lines_of_streams streams) ∙ ap (λ (due : Option ℕ). due_after due (lines_of_streams streams)) (stream_due s) ∙ streams_due streams

-- ---- and back

-- A stream that is not ended yet, if there is one.
abbrev pub unended_lines : Option Stream → List Line
unended_lines None = []
unended_lines (Some s) = Header s.version ∷ map (Says s.version) s.commands

abbrev pub unended_due : Option Stream → Option ℕ
unended_due None = None
unended_due (Some s) = Some s.version

abbrev pub UnendedFits : Option Stream → Type 0
UnendedFits None = Unit {0}
UnendedFits (Some s) = IsStream s

-- Lines are those of whole streams and of one that is not ended.
pub record Split (lines : List Line) : Type 0 where
  pub streams : List Stream
  pub unended : Option Stream
  pub each : AllByRecursion IsStream streams
  pub fits : UnendedFits unended
  pub are : lines ≡ lines_of_streams streams ++ unended_lines unended
  pub due : due_after None lines ≡ unended_due unended

-- Lines within a stream: some commands of it, and if it ends, END and other streams.
pub record Within (version : ℕ) (lines : List Line) : Type 0 where
  pub commands : List Command
  pub inner : AreInner version commands
  pub later : ((lines ≡ map (Says version) commands) × (due_after (Some version) lines ≡ Some version))
      ⊎ ((more : List Line) × (lines ≡ map (Says version) (commands ++ End ∷ []) ++ more) × Split more × (due_after (Some version) lines ≡ due_after None more))

no_lines : Split []
no_lines = record { streams = []; unended = None; each = tt; fits = tt; are = refl; due = refl }

pub end_is : (c : Command) → is_end c ≡ true → c ≡ End
end_is (Subvol uuid ctransid path) e = absurd cc
end_is (Snapshot uuid ctransid path clone_uuid clone_ctransid) e = absurd cc
end_is (MkFile path) e = absurd cc
end_is (MkDir path) e = absurd cc
end_is (MkNod mode rdev path) e = absurd cc
end_is (MkFifo path) e = absurd cc
end_is (MkSock path) e = absurd cc
end_is (Symlink path path_link) e = absurd cc
end_is (Rename path path_to) e = absurd cc
end_is (Link path path_link) e = absurd cc
end_is (Unlink path) e = absurd cc
end_is (Rmdir path) e = absurd cc
end_is (SetXattr name value path) e = absurd cc
end_is (RemoveXattr name path) e = absurd cc
end_is (Write path offset bytes) e = absurd cc
end_is (Clone path offset clone_uuid clone_ctransid clone_path clone_offset clone_len) e = absurd cc
end_is (Truncate size path) e = absurd cc
end_is (Chmod mode path) e = absurd cc
end_is (Chown uid gid path) e = absurd cc
end_is (Utimes mtime atime path) e = absurd cc
end_is End e = refl
end_is (UpdateExtent size path offset) e = absurd cc
end_is (Fallocate size path offset mode) e = absurd cc
end_is (FileAttr path flags) e = absurd cc

-- A stream begins, and its commands follow.
begun : (version : ℕ) (lines : List Line) → is_version version ≡ true → Within version lines → Split (Header version ∷ lines)
begun version lines is w =
    ⊎_elim (λ unended. record {
      streams = [];
      unended = Some (record { version = version; commands = w.commands });
      each = tt;
      fits = record { version = is; commands = w.inner };
      are = ap (λ (l : List Line). Header version ∷ l) unended.0;
      due = unended.1;
    })
    (λ ended. record {
      streams = record { version = version; commands = w.commands } ∷ ended.2.streams;
      unended = ended.2.unended;
      each = (record { version = is; commands = w.inner }, ended.2.each);
      fits = ended.2.fits;
      are = ap (λ (l : List Line). Header version ∷ l)
          (ended.1 ∙ ap (λ (l : List Line). map (Says version) (w.commands ++ End ∷ []) ++ l) ended.2.are
          ∙ sym (append_assoc (map (Says version) (w.commands ++ End ∷ [])) (lines_of_streams ended.2.streams) (unended_lines ended.2.unended)));
      due = ended.3 ∙ ended.2.due;
    }) w.later

-- A command within a stream, and what follows.
said : (version : ℕ) (c : Command) (lines : List Line) → CanWrite version c → is_end c ≡ false → Within version lines → Within version (Says version c ∷ lines)
said version c lines can inside w =
    let due : due_after (Some version) (Says version c ∷ lines) ≡ due_after (Some version) lines = ap (λ (b : Bool). due_after (if b then None else Some version) lines) inside in
    record {
      commands = c ∷ w.commands;
      inner = ((can, inside), w.inner);
      later = ⊎_elim (λ unended. inl (ap (λ (l : List Line). Says version c ∷ l) unended.0, due ∙ unended.1))
          (λ ended. inr (ended.0, ap (λ (l : List Line). Says version c ∷ l) ended.1, ended.2, due ∙ ended.3)) w.later;
    }

ended : (version : ℕ) (c : Command) (lines : List Line) → is_end c ≡ true → Split lines → Within version (Says version c ∷ lines)
ended version c lines is s = record {
  commands = [];
  inner = tt;
  later = inr (lines, ap (λ (d : Command). Says version d ∷ lines) (end_is c is), s, ap (λ (b : Bool). due_after (if b then None else Some version) lines) is);
}

within_by : (version : ℕ) (c : Command) (lines : List Line) (b : Bool) → is_end c ≡ b → CanWrite version c → Runs (if b then None else Some version) lines
    → (Runs None lines → Split lines) × ((v : ℕ) → Runs (Some v) lines → Within v lines) → Within version (Says version c ∷ lines)
within_by version c lines true e can runs both = ended version c lines e (both.0 runs)
within_by version c lines false e can runs both = said version c lines can e (both.1 version runs)

split_both : (lines : List Line) → (Runs None lines → Split lines) × ((version : ℕ) → Runs (Some version) lines → Within version lines)
split_both [] = (λ runs. no_lines, λ version runs. record { commands = []; inner = tt; later = inl (refl, refl) })
split_both (Header version ∷ lines) = (λ runs. begun version lines runs.0 ((split_both lines).1 version runs.1), λ due runs. absurd runs.0)
split_both (Says version c ∷ lines) = (
  λ runs. absurd runs.0,
  λ due runs. subst (λ (v : ℕ). Within due (Says v c ∷ lines)) (sym runs.0.0)
      (within_by due c lines (is_end c) refl runs.0.1 (subst (λ (v : ℕ). Runs (due_behind v c) lines) runs.0.0 runs.1) (split_both lines)),
)

pub split : (lines : List Line) → Runs None lines → Split lines
split lines runs = (split_both lines).0 runs

-- ---- the first lines of a lawful text

least : Stream
least = record { version = 1; commands = [] }

least_is : IsStream least
unfolding least
least_is = record { version = refl; commands = tt }

not_empty : (streams : List Stream) (s : Stream) → streams ++ s ∷ [] ≢ []
not_empty [] s e = absurd cc
not_empty (x ∷ xs) s e = absurd cc

more_lines : (streams : List Stream) (s : Stream) → lines_of_streams (streams ++ s ∷ []) ≡ lines_of_streams streams ++ stream_lines s
more_lines streams s = flat_map-append stream_lines streams (s ∷ []) ∙ ap (λ (l : List Line). lines_of_streams streams ++ l) (append-nil (stream_lines s))

closed : (lines : List Line) (streams : List Stream) (unended : Option Stream) → AllByRecursion IsStream streams → UnendedFits unended → lines ≡ lines_of_streams streams ++ unended_lines unended → BeginsText (map line_text lines)
closed lines streams None each fits are = record {
  streams = streams ++ least ∷ [];
  lawful = record { some = not_empty streams least; each = all_both IsStream streams (least ∷ []) each (least_is, tt) };
  lines = lines;
  rest = stream_lines least;
  all = more_lines streams least ∙ ap (λ (l : List Line). l ++ stream_lines least) (sym (append-nil (lines_of_streams streams)) ∙ sym are);
  texts = refl;
}
closed lines streams (Some s) each fits are = record {
  streams = streams ++ s ∷ [];
  lawful = record { some = not_empty streams s; each = all_both IsStream streams (s ∷ []) each (fits, tt) };
  lines = lines;
  rest = Says s.version End ∷ [];
  all = more_lines streams s ∙ ap (λ (l : List Line). lines_of_streams streams ++ Header s.version ∷ l) (ended_are s.version s.commands)
      ∙ sym (append_assoc (lines_of_streams streams) (Header s.version ∷ map (Says s.version) s.commands) (Says s.version End ∷ []))
      ∙ ap (λ (l : List Line). l ++ Says s.version End ∷ []) (sym are);
  texts = refl;
}

pub begins : (lines : List Line) → Runs None lines → BeginsText (map line_text lines)
begins lines runs = let s = split lines runs in closed lines s.streams s.unended s.each s.fits s.are

pub begun_runs : (front : List (List ℕ)) (b : BeginsText front) → Runs None b.lines
begun_runs front b = runs_first None b.lines b.rest (subst (λ (l : List Line). Runs None l) b.all (streams_run b.streams b.lawful.each))

-- ---- whole streams

pub record Whole (lines : List Line) : Type 0 where
  pub streams : List Stream
  pub lawful : AreStreams streams
  pub are : lines ≡ lines_of_streams streams

some_streams : (lines : List Line) (streams : List Stream) → lines ≢ [] → lines ≡ lines_of_streams streams → streams ≢ []
some_streams lines streams some are none = some (are ∙ ap (λ (l : List Stream). lines_of_streams l) none)

whole_by : (lines : List Line) (streams : List Stream) (unended : Option Stream) → AllByRecursion IsStream streams → lines ≡ lines_of_streams streams ++ unended_lines unended → unended_due unended ≡ None → lines ≢ [] → Whole lines
whole_by lines streams None each are none some =
    let same : lines ≡ lines_of_streams streams = are ∙ append-nil (lines_of_streams streams) in
    record { streams = streams; lawful = record { some = some_streams lines streams some same; each = each }; are = same }
whole_by lines streams (Some s) each are none some = absurd cc

pub whole : (lines : List Line) → Runs None lines → due_after None lines ≡ None → lines ≢ [] → Whole lines
whole lines runs none some = let s = split lines runs in whole_by lines s.streams s.unended s.each s.are (sym s.due ∙ none) some

-- ---- a line is known by its text

pub versions_small : (version : ℕ) → IsVersion version → version < 2 ^ 64
versions_small version is = ⊎_elim (λ e. omega (arith, e)) (λ e. omega (arith, e)) is

header_once : (v w : ℕ) → is_version v ≡ true → is_version w ≡ true → stream_line v ≡ stream_line w → v ≡ w
header_once v w p q e =
    let small = versions_small v (read_version v p) in
    let other = versions_small w (read_version w q) in
    digits_once 10 v w (omega arith) (omega arith) (decimal_small v small) (decimal_small w other)
    (append_cancel_left (codes "stream ") (decimal v) (decimal w) (append_cancel_right (codes "stream " ++ decimal v) (codes "stream " ++ decimal w) (0x0a ∷ []) e))

line_same : (due : Option ℕ) (x y : Line) → IsDueLine due x → IsDueLine due y → line_text x ≡ line_text y → x ≡ y
line_same None (Header v) (Header w) p q e = ap Header (header_once v w p q e)
line_same None (Header v) (Says w d) p q e = absurd q
line_same None (Says v c) y p q e = absurd p
line_same (Some due) (Header v) y p q e = absurd p
line_same (Some due) (Says v c) (Header w) p q e = absurd q
line_same (Some due) (Says v c) (Says w d) p q e = ap₂ Says (p.0 ∙ sym q.0) (line_once due c d p.1.spellable q.1.spellable e)

-- Lines whose texts begin with those of others begin with these.
pub record Continues (first lines : List Line) (texts : List (List ℕ)) : Type 0 where
  pub rest : List Line
  pub are : lines ≡ first ++ rest
  pub says : map line_text rest ≡ texts

pub continues : (due : Option ℕ) (first lines : List Line) (texts : List (List ℕ)) → Runs due first → Runs due lines → map line_text first ++ texts ≡ map line_text lines → Continues first lines texts
continues due [] lines texts p q e = record { rest = lines; are = refl; says = sym e }
continues due (x ∷ xs) [] texts p q e = absurd cc
continues due (x ∷ xs) (y ∷ ys) texts p q e =
    let head : line_text x ≡ line_text y = cc in
    let behind : map line_text xs ++ texts ≡ map line_text ys = cc in
    let same : x ≡ y = line_same due x y p.0 q.0 head in
    let more = continues (due_after_line x) xs ys texts p.1 (subst (λ (l : Line). Runs (due_after_line l) ys) (sym same) q.1) behind in
    record { rest = more.rest; are = λ i. sym same i ∷ more.are i; says = more.says }
