-- Runs of jobs: they read the present nodes in succession, going round, so that each has its turn.
use Rattle.std.specs.Prelude.{Ok, Err}
use mathlib.Core.Path.{◌≡◌, refl, sym, ap, ap₂, subst, ◌∙◌}
use mathlib.Core.Bool.{Bool, true, false, true≢false}
use mathlib.Core.List.{List, [], ◌∷◌, ◌++◌, append-nil}
use Prim.Native.Nat.{ℕ, ◌+◌, ◌-◌, ◌*◌, ◌/◌, ◌%◌, ◌≤◌, ◌<◌}
use native.Mathlib.Nat.{zero-add, zero-mul, mod-mod, mod-add-mod, le-div_iff_mul-le, lt-mul-div-succ, mul-le-mul, le_refl}
use native.Mathlib.Omega.{arith}
use lib.ListN.{length}
use Rattle.lists.specs.Choice.{when}
use Rattle.lists.specs.Rows.{from}
use Rattle.lists.specs.Around.{around}
use Rattle.lists.specs.Counting.{occurrences}
use Rattle.lists.proofs.Rows.{from_append}
use Rattle.lists.proofs.Around.{around_same_rests, around_occurrences}
use Rattle.field.proofs.Modular.{mod_mul_mod}
use Rattle.generator.specs.Answers.{Answer}
use Rattle.generator.specs.declared.Header.{Header}
use Rattle.roster.specs.declared.Roster.{Roster}
use Rattle.roster.specs.declared.Listing.{Listing}
use Rattle.roster.specs.declared.Listing.TheVariants.{Written, TooFew}
use Rattle.roster.specs.Events.{Event}
use Rattle.roster.specs.Rosters.{present_of, step_of, wrote, moved_on, after, lowest_of, job_of, job_list}
use Rattle.roster.specs.Runs.{Call, event, job, next, after_calls, is_read, read_by, reads_of, jobs_in, Quiet}
use Rattle.roster.specs.Claims.{IsIn, present_count, Turns}
use Rattle.roster.proofs.Nodes.{present_distinct, present_place}
use Rattle.roster.proofs.Stepping.{step_same}
use Rattle.roster.proofs.OneJob.{job_marks, job_around}

-- a job's nodes in succession, by any number that leaves the same rest
job_places : (ps : List ℕ) (a i k : ℕ) → a % length ps ≡ i % length ps → from (around ps) (a % length ps * k) k ≡ from (around ps) (i * k) k
job_places ps a i k e = around_same_rests ps (a % length ps * k) (i * k) k (λ t. rw (e, ← mod-add-mod (i % length ps * k) (length ps) t, mod_mul_mod i k (length ps), mod-add-mod (i * k) (length ps) t))

-- the job number moved on by one
moved_on_lem : (s a i : ℕ) → a % s ≡ i % s → (a + 1) % s % s ≡ (i + 1) % s
moved_on_lem s a i e = rw (mod-mod, ← mod-add-mod a s 1, e, mod-add-mod i s 1)

-- one call more: a job that writes, or a call that reads nothing
read_more : (g : ℕ → ℕ) (i j k : ℕ) (xs ys : List ℕ) (t : Bool) → xs ≡ from g (i * k) k → t ≡ true → ys ≡ from g ((i + 1) * k) (j * k) → xs ++ ys ≡ from g (i * k) ((when t 1 + j) * k)
read_more g i j k xs ys t e w f =
    let next : (i + 1) * k ≡ i * k + k = omega arith in
    let more : (when t 1 + j) * k ≡ k + j * k = rw w (omega arith) in
    ap₂ ◌++◌ e (rw next at f) ∙ sym (rw more (from_append g (i * k) k (j * k)))

idle_more : (g : ℕ → ℕ) (i j k : ℕ) (xs ys : List ℕ) (t : Bool) → xs ≡ [] → t ≡ false → ys ≡ from g (i * k) (j * k) → xs ++ ys ≡ from g (i * k) ((when t 1 + j) * k)
idle_more g i j k xs ys t e w f = rw (e, w, zero-add) f

module _ (h : Header) where
  refused_event : (e : Event) (r : Roster) → ((step_of (Ok h) e r).number ≡ 0 → ⊥) → next (Ok h) (event e) r ≡ r
  unfolding next
  refused_event e r bad = step_same e r (Ok h) bad

  next_marks : (list : List ℕ) (r : Roster) → (next (Ok h) (job list) r).marks ≡ r.marks
  unfolding next
  next_marks list r = job_marks h r list

  -- the calls of a run leave the marks, and a part of a run is a run
  quiet_marks : (before cs : List Call) (r : Roster) → Quiet (Ok h) (before ++ cs) r → (after_calls (Ok h) before r).marks ≡ r.marks
  unfolding Quiet after_calls
  quiet_marks [] cs r q = refl
  quiet_marks (event e ∷ before) cs r q = quiet_marks before cs (next (Ok h) (event e) r) q.1 ∙ ap (λ (x : Roster). x.marks) (refused_event e r q.0)
  quiet_marks (job list ∷ before) cs r q = quiet_marks before cs (next (Ok h) (job list) r) q ∙ next_marks list r

  quiet_later : (before cs : List Call) (r : Roster) → Quiet (Ok h) (before ++ cs) r → Quiet (Ok h) cs (after_calls (Ok h) before r)
  unfolding Quiet after_calls
  quiet_later [] cs r q = q
  quiet_later (event e ∷ before) cs r q = quiet_later before cs (next (Ok h) (event e) r) q.1
  quiet_later (job list ∷ before) cs r q = quiet_later before cs (next (Ok h) (job list) r) q

  -- a job that writes
  read_wrote : (r : Roster) (list : List ℕ) → lowest_of (Ok h) r list ≡ Ok Written → (read_by (Ok h) (job list) r ≡ job_list (Ok h) r list) × (is_read (Ok h) (job list) r ≡ true) × (next (Ok h) (job list) r ≡ moved_on h.n r)
  unfolding read_by is_read next wrote job_of after
  read_wrote r list e = (rw e, rw e, rw e)

  -- and one that does not
  read_idle : (r : Roster) (list : List ℕ) (l : Answer Listing) → lowest_of (Ok h) r list ≡ l → wrote l ≡ false → (read_by (Ok h) (job list) r ≡ []) × (is_read (Ok h) (job list) r ≡ false) × (next (Ok h) (job list) r ≡ r)
  unfolding read_by is_read next wrote job_of after
  read_idle r list (Ok Written) e w = absurd (true≢false w)
  read_idle r list (Ok TooFew) e w = (rw e, rw e, rw e)
  read_idle r list (Err f) e w = (rw e, rw e, rw e)

  event_idle : (e : Event) (r : Roster) → (read_by (Ok h) (event e) r ≡ []) × (is_read (Ok h) (event e) r ≡ false)
  unfolding read_by is_read
  event_idle e r = (refl, refl)

  -- the job number after a job that writes
  moved_job : (r : Roster) (i : ℕ) (ps : List ℕ) → present_of h.n r.marks ≡ ps → r.job % length ps ≡ i % length ps → (moved_on h.n r).job % length ps ≡ (i + 1) % length ps
  unfolding moved_on
  moved_job r i ps e m = rw e (moved_on_lem (length ps) r.job i m)

  -- the nodes that a run reads are those at as many places in succession, going round, as its jobs read
  calls_read : (ps : List ℕ) (cs : List Call) (r : Roster) (i : ℕ) → present_of h.n r.marks ≡ ps → r.job % length ps ≡ i % length ps → Quiet (Ok h) cs r → reads_of (Ok h) cs r ≡ from (around ps) (i * h.k) (jobs_in (Ok h) cs r * h.k)
  unfolding reads_of jobs_in Quiet from wrote
  calls_read ps [] r i e m q = rw zero-mul
  calls_read ps (event d ∷ cs) r i e m q =
      let same : next (Ok h) (event d) r ≡ r = refused_event d r q.0 in
      let (none, idle) = event_idle d r in
      idle_more (around ps) i (jobs_in (Ok h) cs (next (Ok h) (event d) r)) h.k (read_by (Ok h) (event d) r) (reads_of (Ok h) cs (next (Ok h) (event d) r)) (is_read (Ok h) (event d) r) none idle
      (calls_read ps cs (next (Ok h) (event d) r) i (rw same e) (rw same m) q.1)
  calls_read ps (job list ∷ cs) r i e m q = go (lowest_of (Ok h) r list) refl (calls_read ps cs)
    where
      idle : (l : Answer Listing) → lowest_of (Ok h) r list ≡ l → wrote l ≡ false
          → ((r : Roster) (i : ℕ) → present_of h.n r.marks ≡ ps → r.job % length ps ≡ i % length ps → Quiet (Ok h) cs r → reads_of (Ok h) cs r ≡ from (around ps) (i * h.k) (jobs_in (Ok h) cs r * h.k))
          → read_by (Ok h) (job list) r ++ reads_of (Ok h) cs (next (Ok h) (job list) r) ≡ from (around ps) (i * h.k) ((when (is_read (Ok h) (job list) r) 1 + jobs_in (Ok h) cs (next (Ok h) (job list) r)) * h.k)
      idle l w no_list later =
          let (none, not_read, same) = read_idle r list l w no_list in
          idle_more (around ps) i (jobs_in (Ok h) cs (next (Ok h) (job list) r)) h.k (read_by (Ok h) (job list) r) (reads_of (Ok h) cs (next (Ok h) (job list) r)) (is_read (Ok h) (job list) r) none not_read
          (later (next (Ok h) (job list) r) i (rw same e) (rw same m) q)

      go : (l : Answer Listing) → lowest_of (Ok h) r list ≡ l
          → ((r : Roster) (i : ℕ) → present_of h.n r.marks ≡ ps → r.job % length ps ≡ i % length ps → Quiet (Ok h) cs r → reads_of (Ok h) cs r ≡ from (around ps) (i * h.k) (jobs_in (Ok h) cs r * h.k))
          → read_by (Ok h) (job list) r ++ reads_of (Ok h) cs (next (Ok h) (job list) r) ≡ from (around ps) (i * h.k) ((when (is_read (Ok h) (job list) r) 1 + jobs_in (Ok h) cs (next (Ok h) (job list) r)) * h.k)
      go (Ok Written) w later =
          let (read, wrote_it, moved) = read_wrote r list w in
          let nodes : read_by (Ok h) (job list) r ≡ from (around ps) (i * h.k) h.k = read ∙ rw e at (job_around h r list w) ∙ job_places ps r.job i h.k m in
          read_more (around ps) i (jobs_in (Ok h) cs (next (Ok h) (job list) r)) h.k (read_by (Ok h) (job list) r) (reads_of (Ok h) cs (next (Ok h) (job list) r)) (is_read (Ok h) (job list) r) nodes wrote_it
          (later (next (Ok h) (job list) r) (i + 1) (rw (next_marks list r) e) (rw moved (moved_job r i ps e m)) q)
      go (Ok TooFew) w later = idle (Ok TooFew) w refl later
      go (Err f) w later = idle (Err f) w refl later

  -- a present node is read as often as its turn comes
  node_turns : (r : Roster) (cs : List Call) → Quiet (Ok h) cs r → (j : ℕ) → IsIn h r j → let m = jobs_in (Ok h) cs r * h.k / present_count h r in (m ≤ occurrences j (reads_of (Ok h) cs r)) × (occurrences j (reads_of (Ok h) cs r) ≤ m + 1)
  node_turns r cs q j (low, is) =
      let (u, inside, e) = present_place h.n r.marks j low is in
      rw (calls_read (present_of h.n r.marks) cs r r.job refl refl q, sym e)
      (around_occurrences (present_of h.n r.marks) (present_distinct h.n r.marks) u (jobs_in (Ok h) cs r * h.k) (r.job * h.k) inside)

  -- s / k jobs, rounded up, read at least s nodes
  rounds_up : (s k j : ℕ) → 0 < k → (s + k - 1) / k ≤ j → s ≤ j * k
  rounds_up s k j some enough =
      let above = lt-mul-div-succ (s + k - 1) some in
      let more : (s + k - 1) / k + 1 ≤ j + 1 = omega arith in
      omega (arith, mul-le-mul (le_refl k) more)

  turn_comes : (r : Roster) (cs : List Call) → 0 < h.k → Quiet (Ok h) cs r → (j : ℕ) → IsIn h r j → (present_count h r + h.k - 1) / h.k ≤ jobs_in (Ok h) cs r → 0 < occurrences j (reads_of (Ok h) cs r)
  turn_comes r cs some q j there enough =
      let s = present_count h r in
      let (u, inside, e) = present_place h.n r.marks j there.0 there.1 in
      let pos : 0 < s = omega arith in
      let round_done : s ≤ jobs_in (Ok h) cs r * h.k = rounds_up s h.k (jobs_in (Ok h) cs r) some enough in
      let once : 1 ≤ jobs_in (Ok h) cs r * h.k / s = (le-div_iff_mul-le pos).1 (omega arith) in
      omega (arith, node_turns r cs q j there)

pub turns : (h : Header) → 0 < h.k → Turns h
turns h some =
    record {
      reads = λ r cs q. calls_read h (present_of h.n r.marks) cs r r.job refl refl q;
      stays = λ r cs q. quiet_marks h cs [] r (subst (λ (l : List Call). Quiet (Ok h) l r) (sym (append-nil cs)) q);
      fair = λ r cs q i j a b. omega (arith, node_turns h r cs q i a, node_turns h r cs q j b);
      waits = λ r before cs q j a enough.
          let same = quiet_marks h before cs r q in
          let count : present_count h (after_calls (Ok h) before r) ≡ present_count h r = rw same in
          turn_comes h (after_calls (Ok h) before r) cs some (quiet_later h before cs r q) j (rw same a) (rw count enough);
    }
