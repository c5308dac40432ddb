-- The first tableau is ready for the pivot rule.
use Rattle.std.proofs.Common.{subst, ◌≡◌, ap, ℕ, suc, ◌+◌, ◌≤◌, ◌<◌, ℤ, List, [], length, get_or}
use Rattle.lt_model.specs.Padded.{lookup}
use Rattle.lt_tableau.specs.Numbers.{column_at}
use Rattle.lt_tableau.specs.Table.{Table, IsTableau, entry_of}
use Rattle.lt_tableau.specs.System.{system_of, unit_column}
use Rattle.lt_tableau.specs.Kept.{IsStart}
use Rattle.lt_tableau.proofs.Starts.{system_starts, system_right}
use Rattle.lt_lp.specs.Rule.{IsReady}
use Rattle.lt_lp.proofs.Leaves.{ready_start}

pub system_ready : (t : Table) (normals : List (List ℤ)) (k n : ℕ) → IsTableau t → k < length normals → n ≤ 21 → ((j : ℕ) → j < length normals → length (column_at normals j) ≡ n) →
    t.system ≡ system_of normals k → t.rows ≡ suc n → ((row column : ℕ) → entry_of t row column ≡ lookup (column_at t.system column) row) → IsReady t
system_ready t normals k n w h l s e r c =
    let a : IsStart t.rows (suc (length normals)) t.system = rw (r, e) (system_starts normals k n h l s) in
    let z : length (get_or normals k []) ≡ n = s k h in
    let f : column_at t.system (suc (length normals) + t.rows) ≡ unit_column n =
    rw (e, r) (subst (λ (m : ℕ). column_at (system_of normals k) (suc (length normals) + suc m) ≡ unit_column m) z (system_right normals k h)) in
    ready_start t (suc (length normals)) n w a r c (λ i b. ap (λ (x : List ℤ). lookup x i) f)
