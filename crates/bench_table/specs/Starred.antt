-- The starred cases of 01's bench table as one statement.
-- Assumes nothing.
use Rattle.bench_table.specs.AcceptorRows.{AcceptorRows, acceptor_rows}
use Rattle.bench_table.specs.ProposerRows.{ProposerRows, proposer_rows}

pub record Starred : Type 0 where
  pub acceptor : AcceptorRows
  pub proposer : ProposerRows

pub starred : Starred
starred = record { acceptor = acceptor_rows; proposer = proposer_rows }
