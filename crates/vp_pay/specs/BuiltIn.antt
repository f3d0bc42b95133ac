-- The four built-in pay tables. The first and the third are the games of S. N. Ethier, The Doctrine of Chances (2010), chapter on video poker;
-- all four are known by their names. That any machine pays by them is not claimed.
use Rattle.std.specs.Prelude.{ℕ, [], ◌∷◌, ◌==◌, Option, Some, None, codes, if◌then◌else◌}
use Rattle.vp_text.specs.Lines.{Word}
use Rattle.vp_pay.specs.declared.pattern.Pattern.{Pattern}
use Rattle.vp_pay.specs.declared.pattern.Pattern.TheVariants.{Royal, StraightFlush, FiveKind, Wilds, Quads, FullHouse, Flush, Straight, Trips, TwoPair, Pair}
use Rattle.vp_pay.specs.declared.pattern.Qualifier.{Qualifier}
use Rattle.vp_pay.specs.declared.pattern.Qualifier.TheVariants.{Either, Natural, Wild}
use Rattle.vp_pay.specs.declared.table.PayLine.{PayLine}
use Rattle.vp_pay.specs.declared.table.PayTable.{PayTable}

-- a pay line for bets of 1 to 5 coins
abbrev pub pays : Word → Pattern → Qualifier → ℕ → ℕ → ℕ → ℕ → ℕ → PayLine
pays name pattern qualifier one two three four five =
    record { name = name; pattern = pattern; qualifier = qualifier; pays = one ∷ two ∷ three ∷ four ∷ five ∷ [] }

-- sets of ranks by their bits, the two being the lowest
abbrev pub any : ℕ
any = 8191

abbrev pub jacks_to_aces : ℕ
jacks_to_aces = 7680

abbrev pub kings_and_aces : ℕ
kings_and_aces = 6144

abbrev pub aces : ℕ
aces = 4096

abbrev pub twos_to_fours : ℕ
twos_to_fours = 7

abbrev pub fives_to_kings : ℕ
fives_to_kings = 4088

-- jacks or better, nine for a full house and six for a flush
unfoldable pub jacks : PayTable
jacks = record {
  name = codes "jacks-9-6";
  deck = 52;
  wild = None;
  coins = 5;
  lines = record {
    items =
        pays (codes "royal") Royal Either 250 500 750 1000 4000
        ∷ pays (codes "straight-flush") StraightFlush Either 50 100 150 200 250
        ∷ pays (codes "quads") (Quads any None) Either 25 50 75 100 125
        ∷ pays (codes "full-house") FullHouse Either 9 18 27 36 45
        ∷ pays (codes "flush") Flush Either 6 12 18 24 30
        ∷ pays (codes "straight") Straight Either 4 8 12 16 20
        ∷ pays (codes "trips") Trips Either 3 6 9 12 15
        ∷ pays (codes "two-pair") TwoPair Either 2 4 6 8 10
        ∷ pays (codes "high-pair") (Pair jacks_to_aces) Either 1 2 3 4 5
        ∷ [];
  };
}

-- four of a kind pays by its rank
unfoldable pub bonus : PayTable
bonus = record {
  name = codes "bonus-8-5";
  deck = 52;
  wild = None;
  coins = 5;
  lines = record {
    items =
        pays (codes "royal") Royal Either 250 500 750 1000 4000
        ∷ pays (codes "straight-flush") StraightFlush Either 50 100 150 200 250
        ∷ pays (codes "quad-aces") (Quads aces None) Either 80 160 240 320 400
        ∷ pays (codes "quad-low") (Quads twos_to_fours None) Either 40 80 120 160 200
        ∷ pays (codes "quads") (Quads fives_to_kings None) Either 25 50 75 100 125
        ∷ pays (codes "full-house") FullHouse Either 8 16 24 32 40
        ∷ pays (codes "flush") Flush Either 5 10 15 20 25
        ∷ pays (codes "straight") Straight Either 4 8 12 16 20
        ∷ pays (codes "trips") Trips Either 3 6 9 12 15
        ∷ pays (codes "two-pair") TwoPair Either 2 4 6 8 10
        ∷ pays (codes "high-pair") (Pair jacks_to_aces) Either 1 2 3 4 5
        ∷ [];
  };
}

-- twos are wild
unfoldable pub deuces : PayTable
deuces = record {
  name = codes "deuces-full";
  deck = 52;
  wild = Some 0;
  coins = 5;
  lines = record {
    items =
        pays (codes "natural-royal") Royal Natural 250 500 750 1000 4000
        ∷ pays (codes "four-deuces") (Wilds 4 None) Either 200 400 600 800 1000
        ∷ pays (codes "wild-royal") Royal Wild 25 50 75 100 125
        ∷ pays (codes "five-kind") (FiveKind any) Either 15 30 45 60 75
        ∷ pays (codes "straight-flush") StraightFlush Either 9 18 27 36 45
        ∷ pays (codes "quads") (Quads any None) Either 5 10 15 20 25
        ∷ pays (codes "full-house") FullHouse Either 3 6 9 12 15
        ∷ pays (codes "flush") Flush Either 2 4 6 8 10
        ∷ pays (codes "straight") Straight Either 2 4 6 8 10
        ∷ pays (codes "trips") Trips Either 1 2 3 4 5
        ∷ [];
  };
}

-- a joker, and kings or better
unfoldable pub kings : PayTable
kings = record {
  name = codes "joker-kings";
  deck = 53;
  wild = None;
  coins = 5;
  lines = record {
    items =
        pays (codes "natural-royal") Royal Natural 250 500 750 1000 4000
        ∷ pays (codes "five-kind") (FiveKind any) Either 200 400 600 800 1000
        ∷ pays (codes "wild-royal") Royal Wild 100 200 300 400 500
        ∷ pays (codes "straight-flush") StraightFlush Either 50 100 150 200 250
        ∷ pays (codes "quads") (Quads any None) Either 20 40 60 80 100
        ∷ pays (codes "full-house") FullHouse Either 7 14 21 28 35
        ∷ pays (codes "flush") Flush Either 5 10 15 20 25
        ∷ pays (codes "straight") Straight Either 3 6 9 12 15
        ∷ pays (codes "trips") Trips Either 2 4 6 8 10
        ∷ pays (codes "two-pair") TwoPair Either 1 2 3 4 5
        ∷ pays (codes "high-pair") (Pair kings_and_aces) Either 1 2 3 4 5
        ∷ [];
  };
}

-- the built-in tables by their numbers, from 0
abbrev pub built_in : ℕ → Option PayTable
built_in i = if i == 0 then Some jacks else (if i == 1 then Some bonus else (if i == 2 then Some deuces else (if i == 3 then Some kings else None)))
