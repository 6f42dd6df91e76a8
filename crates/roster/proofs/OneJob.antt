-- One job on any roster: what it writes, and the roster afterwards.
use Rattle.std.specs.Prelude.{Ok, Err}
use Rattle.generator.specs.Answers.{Answer, fault_in}
use mathlib.Core.Path.{◌≡◌, refl, ap}
use mathlib.Core.List.{List}
use Prim.Native.Nat.{ℕ, ◌+◌, ◌*◌, ◌%◌, ◌<◌}
use native.Mathlib.Nat.{mod-lt}
use native.Mathlib.Omega.{arith}
use Rattle.lists.specs.Rows.{from}
use Rattle.lists.specs.Around.{around}
use Rattle.generator.specs.declared.Header.{Header}
use Rattle.roster.specs.declared.Roster.{Roster}
use Rattle.roster.specs.declared.Listing.{Listing}
use Rattle.roster.specs.declared.Listing.TheVariants.{Written, TooFew}
use Rattle.roster.specs.Rosters.{present_of, listed, nodes_at, job_nodes, moved_on, after, lowest_of, job_of, job_list}
use Rattle.roster.specs.Claims.{present_count, Jobs}
use Rattle.roster.proofs.Lowest.{around_nodes, around_here, enough_are, same_present}

-- the roster after a job, by what became of the list
module _ (n : ℕ) (r : Roster) where
  after_marks : (l : Answer Listing) → (after l n r).marks ≡ r.marks
  unfolding after moved_on
  after_marks (Ok Written) = refl
  after_marks (Ok TooFew) = refl
  after_marks (Err f) = refl

  after_idle : (l : Answer Listing) → (l ≡ Ok Written → ⊥) → after l n r ≡ r
  unfolding after
  after_idle (Ok Written) bad = absurd (bad refl)
  after_idle (Ok TooFew) bad = refl
  after_idle (Err f) bad = refl

listed_idle : (l : Answer Listing) (nodes list : List ℕ) → (l ≡ Ok Written → ⊥) → listed l nodes list ≡ list
unfolding listed
listed_idle (Ok Written) nodes list bad = absurd (bad refl)
listed_idle (Ok TooFew) nodes list bad = refl
listed_idle (Err f) nodes list bad = refl

module _ (h : Header) (r : Roster) (list : List ℕ) where
  -- a job leaves the marks
  pub job_marks : (job_of (Ok h) r list).roster.marks ≡ r.marks
  unfolding job_of
  job_marks = after_marks h.n r (lowest_of (Ok h) r list)

  pub job_idle : ((job_of (Ok h) r list).listing ≡ Ok Written → ⊥) → ((job_of (Ok h) r list).roster ≡ r) × (job_list (Ok h) r list ≡ list)
  unfolding job_of job_list
  job_idle bad = (after_idle h.n r (lowest_of (Ok h) r list) bad, listed_idle (lowest_of (Ok h) r list) (job_nodes h.n h.k r) list bad)

  -- a job that writes reads k present nodes in succession, and moves the number on
  module _ (e : lowest_of (Ok h) r list ≡ Ok Written) where
    pub job_around : job_list (Ok h) r list ≡ from (around (present_of h.n r.marks)) (r.job % present_count h r * h.k) h.k
    unfolding job_list job_nodes nodes_at listed
    job_around = rw e

    pub job_moved : (job_of (Ok h) r list).roster ≡ moved_on h.n r
    unfolding job_of after
    job_moved = rw e

    job_next : (job_of (Ok h) r list).roster.job ≡ (r.job + 1) % present_count h r
    unfolding moved_on
    job_next = ap (λ (x : Roster). x.job) job_moved

    job_below : 0 < h.k → (r.job + 1) % present_count h r < present_count h r
    job_below some = mod-lt (r.job + 1) {m = present_count h r} (omega (arith, enough_are h r list e))

-- for every record: a job answers as the query, and beside a number the list is as it was
pub job_listing : (r : Roster) (list : List ℕ) (rec : Answer Header) → (job_of rec r list).listing ≡ lowest_of rec r list
unfolding job_of lowest_of
job_listing r list (Err f) = refl
job_listing r list (Ok h) = refl

pub job_kept : (r : Roster) (list : List ℕ) (rec : Answer Header) → (fault_in (lowest_of rec r list) ≡ 0 → ⊥) → job_list rec r list ≡ list
unfolding job_list
job_kept r list (Err f) bad = refl
job_kept r list (Ok h) bad = listed_idle (lowest_of (Ok h) r list) (job_nodes h.n h.k r) list (λ e. bad (zero_written (lowest_of (Ok h) r list) e))
  where
    zero_written : (a : Answer Listing) → a ≡ Ok Written → fault_in a ≡ 0
    zero_written a e = rw e

pub jobs : (h : Header) → 0 < h.k → Jobs h
unfolding job_of job_list job_nodes lowest_of
jobs h some =
    record {
      answered = λ r list. refl;
      nodes = λ r list e. rw (job_around h r list e) (around_nodes h r.marks some (enough_are h r list e) (r.job % present_count h r * h.k));
      here = λ r list e j is. around_here h r.marks some (enough_are h r list e) (r.job % present_count h r * h.k) j (rw (job_around h r list e) at is);
      idle = job_idle h;
      marks = job_marks h;
      moves = λ r list e. (job_next h r list e, rw (job_next h r list e) (job_below h r list e some));
      beyond = λ r q list same number. let ps = same_present h r q same in rw (ps, rw ps at number);
    }
