-- How one byte, and the bytes of a piece, change what is open.
use Rattle.std.specs.Prelude.{◌≡◌, ℕ, ◌+◌, ◌<◌, ◌≤◌, List, [], ◌∷◌, length, take, drop, false}
use Rattle.goal_lexer.specs.declared.mode.Mode.{Mode}
use Rattle.goal_lexer.specs.declared.mode.Mode.TheVariants.{Between, Failed}
use Rattle.goal_lexer.specs.declared.tokens.Token.{Token}
use Rattle.goal_lexer.specs.declared.scanning.ByteEnd.{ByteEnd}
use Rattle.goal_lexer.specs.declared.scanning.PieceEnd.{PieceEnd}
use Rattle.goal_lexer.specs.declared.scanning.ByteEnd.TheVariants as step
use Rattle.goal_lexer.specs.declared.scanning.PieceEnd.TheVariants as stop
use Rattle.goal_lexer.specs.Bytes.{is_run_byte}
use Rattle.goal_lexer.specs.Scan.{next, scan, closing}
use Rattle.goal_lexer.specs.Sound.{IsSound}
use Rattle.goal_lexer.specs.Stands.{begins_run}

-- what a step says: what was open, the byte's place, the byte, what is open now, and the token that the byte ended
abbrev pub StepsTo : ByteEnd → Mode → ℕ → ℕ → Mode → Token → Type 0
StepsTo step.Nothing old place byte new token = (next old place byte ≡ (new, [])) × IsSound new
StepsTo step.Run old place byte new token =
    (is_run_byte byte ≡ false) × (closing place old ≡ token ∷ []) × (new ≡ Between) × (token.end ≡ place)
StepsTo step.Sign old place byte new token =
    (next old place byte ≡ (new, token ∷ [])) × (new ≡ Between) × (token.end ≡ place + 1)
StepsTo (step.Fault at) old place byte new token = (next old place byte ≡ (Failed at, [])) × (new ≡ Failed at)

-- what a stop says: what was open, the piece's place, the piece, what is open now, and the token that ended there
abbrev pub StopsAt : PieceEnd → Mode → ℕ → List ℕ → Mode → Token → Type 0
StopsAt stop.Piece old place piece new token = (scan old place piece ≡ (new, [])) × IsSound new
StopsAt (stop.Run taken) old place piece new token =
    (taken < length piece) × (begins_run (drop taken piece) ≡ false) × (new ≡ Between)
    × ((run : Mode) × (scan old place (take taken piece) ≡ (run, [])) × (closing (place + taken) run ≡ token ∷ []))
    × (token.end ≡ place + taken)
StopsAt (stop.Sign taken) old place piece new token =
    (0 < taken) × (taken ≤ length piece) × (new ≡ Between)
    × (scan old place (take taken piece) ≡ (Between, token ∷ [])) × (token.end ≡ place + taken)
StopsAt (stop.Fault at) old place piece new token = (scan old place piece ≡ (Failed at, [])) × (new ≡ Failed at)
