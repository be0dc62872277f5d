-- All that is demanded of the machine, met: over any number of ports for which two bytes hold a transit, and so of eight.
-- Assumes nothing.
use Prim.Native.Nat.{ℕ, ◌<◌}
use native.Mathlib.Omega.{arith}
use Rattle.books.specs.Books.{transit_top}
use Rattle.demands.specs.Demands.{NeverBroken, ExactlyLegal, ReceiptExactlyLegal, AlwaysLegal, ExactlyAnywhere, LanesAreLeft, VerdictIsAbsence, BooksAreCounts, AbsentMeansGone, Progress, Bounded, AtRest}
use Rattle.demands.proofs.Anywhere.{exactly_anywhere_lem}
use Rattle.demands.proofs.Never.{never_broken_lem}
use Rattle.demands.proofs.Exactly.{exactly_legal_lem, receipt_exactly_legal_lem, always_legal_lem, lanes_are_left_lem}
use Rattle.demands.proofs.Asked.{verdict_is_absence_lem, books_are_counts_lem, absent_means_gone_lem}
use Rattle.demands.proofs.Settled.{progress, bounded, at_rest_lem}

-- the demands on a machine of n ports
pub record Met (n : ℕ) : Type 0 where
  pub never_broken : NeverBroken n
  pub exactly_legal : ExactlyLegal n
  pub receipt_exactly_legal : ReceiptExactlyLegal n
  pub always_legal : AlwaysLegal n
  pub exactly_anywhere : ExactlyAnywhere n
  pub lanes_are_left : LanesAreLeft n
  pub verdict_is_absence : VerdictIsAbsence n
  pub books_are_counts : BooksAreCounts n
  pub absent_means_gone : AbsentMeansGone n
  pub progress : Progress n
  pub bounded : Bounded n
  pub at_rest : AtRest n

-- ALL OF THEM ARE MET
pub met : (n : ℕ) → transit_top n < 65535 → Met n
met n few = record {
  never_broken = never_broken_lem n few;
  exactly_legal = exactly_legal_lem n few;
  receipt_exactly_legal = receipt_exactly_legal_lem n few;
  always_legal = always_legal_lem n few;
  exactly_anywhere = exactly_anywhere_lem n;
  lanes_are_left = lanes_are_left_lem n few;
  verdict_is_absence = verdict_is_absence_lem n few;
  books_are_counts = books_are_counts_lem n few;
  absent_means_gone = absent_means_gone_lem n few;
  progress = progress n few;
  bounded = bounded n few;
  at_rest = at_rest_lem n few;
}

-- THE MACHINE OF EIGHT PORTS
pub eight : Met 8
eight = met 8 (omega arith)
