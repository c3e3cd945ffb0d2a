-- A walk, then rest for ever, is a run; the beginning of a run is a walk. Assumes nothing.
use Rattle.std.proofs.Common.{◌≡◌, ℕ, zero, suc, List, [], ◌∷◌, ◌++◌, length, get_or, sym, refl, subst}
use lib.ListN.{get_or-eq_default}
use Rattle.system.specs.Transitions.{Transitions}
use Rattle.system.specs.Runs.{Step, rest, Leads, Walk, Reachable, Run}
use Rattle.system_laws.specs.Passing.{WalksExtendToRuns, ReachableIsPassedThrough, ClashFreeByStates}

module _ (T : Transitions) where
  -- The state of the walk before its step i, and its last state from its end on.
  abbrev pub along : ℕ → (s : ℕ) (w : List Step) (t : ℕ) → Walk T s w t → ℕ
  along zero s w t h = s
  along (suc i) s [] t h = s
  along (suc i) s (a ∷ w) t h = along i h.0 w t h.2

  pub along_goes : (i s : ℕ) (w : List Step) (t : ℕ) (h : Walk T s w t) → Leads T (along i s w t h) (get_or w i rest) (along (suc i) s w t h)
  along_goes zero s [] t h = refl
  along_goes zero s (a ∷ w) t h = h.1
  along_goes (suc i) s [] t h = refl
  along_goes (suc i) s (a ∷ w) t h = along_goes i h.0 w t h.2

  along_end : (s : ℕ) (w : List Step) (t : ℕ) (h : Walk T s w t) → along (length w) s w t h ≡ t
  along_end s [] t h = h
  along_end s (a ∷ w) t h = along_end h.0 w t h.2

  -- The run that takes the steps of the walk, and rests from its end on.
  abbrev pub rest_after : (w : List Step) (t : ℕ) → Walk T T.start w t → Run T
  rest_after w t h = record {
    state = λ i. along i T.start w t h;
    step = λ i. get_or w i rest;
    starts = refl;
    goes = λ i. along_goes i T.start w t h;
  }

  -- A walk, and one step more.
  pub walk_more : (v : List Step) (s u t : ℕ) (a : Step) → Walk T s v u → Leads T u a t → Walk T s (v ++ (a ∷ [])) t
  walk_more [] s u t a e l = (t, rw e l, refl)
  walk_more (b ∷ v) s u t a h l = (h.0, h.1, walk_more v h.0 u t a h.2 l)

  -- The states of a run are reachable.
  pub passed_reachable : (r : Run T) (i : ℕ) → Reachable T (r.state i)
  passed_reachable r zero = ([], sym r.starts)
  passed_reachable r (suc i) =
      let (w, h) = passed_reachable r i in
      (w ++ (r.step i ∷ []), walk_more w T.start (r.state i) (r.state (suc i)) (r.step i) h (r.goes i))

pub walks_extend_to_runs_lem : WalksExtendToRuns
walks_extend_to_runs_lem T w t h =
    (rest_after T w t h, record { begins = λ i l. refl; comes = along_end T T.start w t h; rests = λ i l. get_or-eq_default w rest l })

pub reachable_is_passed_through_lem : ReachableIsPassedThrough
reachable_is_passed_through_lem T s = (
  (λ (w, h). (rest_after T w s h, (length w, along_end T T.start w s h))),
  (λ (r, (i, e)). subst (λ u. Reachable T u) e (passed_reachable T r i)),
)

pub clash_free_by_states_lem : ClashFreeByStates
clash_free_by_states_lem T = (
  (λ free s (w, h) clash. free (rest_after T w s h) (length w, rw (along_end T T.start w s h) clash)),
  (λ free r (i, clash). free (r.state i) (passed_reachable T r i) clash),
)
