-- How the code keeps a picture: each machine's group, and for each group the set of the groups that need it.
use Rattle.std.specs.Prelude.{ℕ, ◌≤◌, ◌<◌, ◌≡◌, List, true, length, get_or}
use Rattle.common.specs.Bits.{bit}
use Rattle.plan.specs.Groups.{group_count, members}
use Rattle.picture.specs.Picture.{Picture, edges_by}
use Rattle.picture.specs.Text.{text_of}

module _ (numbers targets : List ℕ) where
  unfoldable pub shown : Picture
  shown = record { groups = numbers; edges = edges_by (λ a k. bit (get_or targets a 0) k) (length targets) }

  -- at most 32 machines and groups, and edges between these groups alone
  pub record Shows : Type 0 where
    pub few-machines : length numbers ≤ 32
    pub few-groups : length targets ≤ 32
    pub all-groups : length targets ≡ group_count numbers
    pub inside : (a k : ℕ) → bit (get_or targets a 0) k ≡ true → k < length targets

-- A text is that of the picture that is kept so, in which each group has a machine.
pub record Shown (text numbers targets : List ℕ) : Type 0 where
  pub shows : Shows numbers targets
  pub some : 0 < length numbers
  pub no_more : length targets ≤ length numbers
  pub used : (k : ℕ) → k < length targets → 0 < length (members numbers k)
  pub text-is : text_of (shown numbers targets) ≡ text
