-- The bytes of commands that are joined.
use Rattle.std.specs.Prelude.{◌≡◌, ℕ, List, [], ◌∷◌, ◌++◌, Result, Ok, Err, OnOk}
use Rattle.std.proofs.Common.{refl, sym, ap, ◌∙◌, append_assoc, append-nil}
use Rattle.send_model.specs.Command.{Command}
use Rattle.inode_commands.specs.Spelled.{spelled_all}

module _ (spelled : ℕ → Command → List ℕ) (version : ℕ) where
  pub all_joined : (cs ds : List Command) → spelled_all spelled version (cs ++ ds) ≡ spelled_all spelled version cs ++ spelled_all spelled version ds
  all_joined [] ds = refl
  all_joined (c ∷ cs) ds = ap (λ (l : List ℕ). spelled version c ++ l) (all_joined cs ds) ∙ sym (append_assoc (spelled version c) (spelled_all spelled version cs) (spelled_all spelled version ds))

  -- Commands behind others that were appended.
  pub then_all : (cs ds : List Command) (old middle new : List ℕ) → middle ≡ old ++ spelled_all spelled version cs → new ≡ middle ++ spelled_all spelled version ds → new ≡ old ++ spelled_all spelled version (cs ++ ds)
  then_all cs ds old middle new e f =
      f ∙ ap (λ (l : List ℕ). l ++ spelled_all spelled version ds) e ∙ append_assoc old (spelled_all spelled version cs) (spelled_all spelled version ds) ∙ ap (λ (l : List ℕ). old ++ l) (sym (all_joined cs ds))

  -- One command is the list of it.
  pub one_all : (c : Command) (old new : List ℕ) → new ≡ old ++ spelled version c → new ≡ old ++ spelled_all spelled version (c ∷ [])
  one_all c old new e = e ∙ ap (λ (l : List ℕ). old ++ l) (sym (append-nil (spelled version c)))

  -- Five parts one after the other.
  pub five_all : (c : Command) (ds es fs : List Command) (last : Command) (t0 t1 t2 t3 t4 t5 : List ℕ) → t1 ≡ t0 ++ spelled version c → t2 ≡ t1 ++ spelled_all spelled version ds → t3 ≡ t2 ++ spelled_all spelled version es
      → t4 ≡ t3 ++ spelled_all spelled version fs → t5 ≡ t4 ++ spelled version last → t5 ≡ t0 ++ spelled_all spelled version (c ∷ (ds ++ (es ++ (fs ++ last ∷ []))))
  five_all c ds es fs last t0 t1 t2 t3 t4 t5 a b d e f =
      let fl : t5 ≡ t3 ++ spelled_all spelled version (fs ++ last ∷ []) = then_all fs (last ∷ []) t3 t4 t5 e (one_all last t4 t5 f) in
      let el : t5 ≡ t2 ++ spelled_all spelled version (es ++ (fs ++ last ∷ [])) = then_all es (fs ++ last ∷ []) t2 t3 t5 d fl in
      let dl : t5 ≡ t1 ++ spelled_all spelled version (ds ++ (es ++ (fs ++ last ∷ []))) = then_all ds (es ++ (fs ++ last ∷ [])) t1 t2 t5 b el in
      then_all (c ∷ []) (ds ++ (es ++ (fs ++ last ∷ []))) t0 t1 t5 (one_all c t0 t1 a) dl

-- What is said of a call that was done follows from another.
pub if_done : {A E : Type 0} {P Q : Type 0} (r : Result A E) → (P → Q) → OnOk r P → OnOk r Q
if_done (Ok x) f p = f p
if_done (Err e) f p = tt
