-- In each arm the gate's case is known, and one count is one more. Assumes nothing.
use native.Mathlib.Nat.{add-zero}
use Rattle.gates.specs.Counting.{count_of}
use Rattle.gates.proofs.bump.Goals as goal

pub returns-in-BelowThreshold : goal.returns-in-BelowThreshold
unfolding count_of
returns-in-BelowThreshold c = rw c.in-BelowThreshold.is (simp add-zero)

pub returns-in-RangeFolded : goal.returns-in-RangeFolded
unfolding count_of
returns-in-RangeFolded c = rw c.in-RangeFolded.is (simp add-zero)

pub returns-in-NotScanned : goal.returns-in-NotScanned
unfolding count_of
returns-in-NotScanned c = rw c.in-NotScanned.is (simp add-zero)

pub returns-in-Unknown : goal.returns-in-Unknown
unfolding count_of
returns-in-Unknown c = rw c.in-Unknown.is (simp add-zero)

pub returns-in-Reserved : goal.returns-in-Reserved
unfolding count_of
returns-in-Reserved c = rw c.in-Reserved.is (simp add-zero)

pub returns-in-Value : goal.returns-in-Value
unfolding count_of
returns-in-Value c = rw c.in-Value.is (simp add-zero)

pub returns-in-Class : goal.returns-in-Class
unfolding count_of
returns-in-Class c = rw c.in-Class.is (simp add-zero)
