-- The bet, the class lines and the return are put one after the other.
use Rattle.std.proofs.Common.{[], refl, sym, ap, append-nil}
use Rattle.vp_io.proofs.Puts_laws.{Puts_as}
use Rattle.vp_io.proofs.PutSoFar.{put_all, put_halted, put_more, put_same, put_start}
use Rattle.vp_cert.proofs.Parts.{bet_line, behind_table, last_as}
use Rattle.vp_cert.proofs.certificate.put_behind_table.Goals as goal

pub returns-in_err-put_bet-clause-puts : goal.returns-in_err-put_bet-clause-puts
returns-in_err-put_bet-clause-puts g c =
    let bet = Puts_as (ap bet_line c.coin-coin.ensures.coin) c.put_bet.ensures in
    put_halted _ refl c.in_err-put_bet.was c.from_residual.ensures.0 bet (put_same (behind_table _ _) (put_start _ _))

pub returns-in_err-sum-clause-puts : goal.returns-in_err-sum-clause-puts
returns-in_err-sum-clause-puts g c =
    let bet = Puts_as (ap bet_line c.coin-coin.ensures.coin) c.put_bet.ensures in
    let behind_bet = put_more refl c.in_ok-put_bet.was bet (put_same (behind_table _ _) (put_start _ _)) in
    put_halted _ refl c.in_err-sum.was c.from_residual-in_err-sum.ensures.0 c.put_classes.ensures.puts behind_bet

pub returns-in_err-put_return-clause-puts : goal.returns-in_err-put_return-clause-puts
returns-in_err-put_return-clause-puts g c =
    let bet = Puts_as (ap bet_line c.coin-coin.ensures.coin) c.put_bet.ensures in
    let last = Puts_as (last_as _ _ _ _ _ _ c.table.ensures.table c.coin-coin.ensures.coin c.in_ok-sum.ensures.sum c.return_denominator-denominator.ensures) c.put_return.ensures in
    let behind_bet = put_more refl c.in_ok-put_bet.was bet (put_same (behind_table _ _) (put_start _ _)) in
    let behind_classes = put_more refl c.in_ok-sum.was c.put_classes.ensures.puts behind_bet in
    put_halted [] (sym (append-nil _)) c.in_err-put_return.was c.from_residual-in_err-put_return.ensures.0 last behind_classes

pub returns-clause-puts : goal.returns-clause-puts
returns-clause-puts g c =
    let bet = Puts_as (ap bet_line c.coin-coin.ensures.coin) c.put_bet.ensures in
    let last = Puts_as (last_as _ _ _ _ _ _ c.table.ensures.table c.coin-coin.ensures.coin c.in_ok-sum.ensures.sum c.return_denominator-denominator.ensures) c.put_return.ensures in
    let behind_bet = put_more refl c.in_ok-put_bet.was bet (put_same (behind_table _ _) (put_start _ _)) in
    let behind_classes = put_more refl c.in_ok-sum.was c.put_classes.ensures.puts behind_bet in
    put_all refl (put_more (sym (append-nil _)) c.in_ok-put_return.was last behind_classes)
