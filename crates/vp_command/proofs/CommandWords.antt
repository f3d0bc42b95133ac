-- Words are a command exactly where they spell it.
use Rattle.std.proofs.Common.{◌≡◌, ℕ, ◌^◌, ◌<◌, ◌≤◌, Bool, true, false, List, [], ◌∷◌, Option, Some, None, arith, if◌then◌else◌, refl, sym, ap, subst, ◌∙◌}
use Rattle.std.specs.Prelude.{bytes_eq, codes, option_map}
use Rattle.std.specs.Fmt.{decimal}
use Rattle.std.proofs.lemmas.Slice.Eq.{bytes_eq-Decides}
use Rattle.vp_text.specs.Lines.{Word}
use Rattle.vp_text.specs.Numbers.{number_of, number_within}
use Rattle.vp_text.specs.Pieces.{◌>>=◌}
use Rattle.vp_text.proofs.Numbers.{number_exact, number_within_exact}
use Rattle.vp_pay.specs.Names.{is_name}
use Rattle.vp_text.proofs.Pieces.{bound, chosen}
use Rattle.vp_command.specs.Commands.{AreInRange, CommandsAreSpelled, InRange, alone, bet, check, coin_of, command_of, command_words, meter, task_of, task_words, multi, play, compile}
use Rattle.vp_command.specs.declared.command.Command.{Command}
use Rattle.vp_command.specs.declared.command.Command.TheVariants.{Over, Tables}
use Rattle.vp_command.specs.declared.command.Task.{Task}
use Rattle.vp_command.specs.declared.command.Task.TheVariants.{Certify, Check, Deal, Holds, Replay, Sessions, Meter, Audit, Multi, Play, Compile, Cross, Hits}

-- the words spell the task, and its numbers are in range
abbrev Spells : List Word → Task → Type 0
Spells words task = (words ≡ task_words task) × InRange task

-- a number in range, from its digits
digits : (least most : ℕ) (word : Word) (n : ℕ) → most < 2 ^ 64 → number_within least most word ≡ Some n → ((least ≤ n) × (n ≤ most)) × (decimal n ≡ word)
digits least most word n below is = (number_within_exact least most below).takes word n is

a_bet : (key : Word) (task : ℕ → Task) → ((coin : ℕ) → task_words (task coin) ≡ key ∷ decimal coin ∷ []) → ((coin : ℕ) → (1 ≤ coin) × (coin ≤ 5) → InRange (task coin))
    → (numbers : List Word) (read : Task) → bet task numbers ≡ Some read → Spells (key ∷ numbers) read
unfolding coin_of
a_bet key task spelled fits [] read e = absurd cc
a_bet key task spelled fits (number ∷ second ∷ more) read e = absurd cc
a_bet key task spelled fits (number ∷ []) read e = of_coin (number_within 1 5 number) refl e
  where
    of_coin : (coin : Option ℕ) → number_within 1 5 number ≡ coin → option_map task coin ≡ Some read → Spells (key ∷ number ∷ []) read
    of_coin None is e = absurd cc
    of_coin (Some coin) is e =
        let said = digits 1 5 number coin (omega arith) is in
        let same : task coin ≡ read = cc in
        subst (λ (t : Task). Spells (key ∷ number ∷ []) t) same (ap (λ (w : Word). key ∷ w ∷ []) (sym said.1) ∙ sym (spelled coin), fits coin said.0)

a_check : (numbers : List Word) (read : Task) → check numbers ≡ Some read → Spells (codes "check" ∷ numbers) read
a_check [] read e = absurd cc
a_check (first ∷ []) read e = absurd cc
a_check (first ∷ second ∷ third ∷ more) read e = absurd cc
a_check (first ∷ second ∷ []) read e =
    let from = bound (number_within 1 200000 first) _ read e in
    let count = bound (number_within 0 200000 second) _ read from.then in
    let f = digits 1 200000 first from.value (omega arith) from.first in
    let n = digits 0 200000 second count.value (omega arith) count.first in
    let same : Check from.value count.value ≡ read = (let e : Some (Check from.value count.value) ≡ Some read = count.then in cc) in
    subst (λ (t : Task). Spells (codes "check" ∷ first ∷ second ∷ []) t) same
    (ap (λ (w : Word). codes "check" ∷ w ∷ second ∷ []) (sym f.1) ∙ ap (λ (w : Word). codes "check" ∷ decimal from.value ∷ w ∷ []) (sym n.1), record { some = f.0.0; most_from = f.0.1; most_count = n.0.1 })

-- a name is the word itself
named : (word : Word) (name : Word) → (if is_name word then Some word else None) ≡ Some name → (is_name word ≡ true) × (word ≡ name)
named word name e = by_test (is_name word) e
  where
    by_test : (b : Bool) → (if b then Some word else None) ≡ Some name → (b ≡ true) × (word ≡ name)
    by_test true e = (refl, cc)
    by_test false e = absurd cc

-- the same words of a meter
meter_same : (a b c d e f g h : Word) → a ≡ b → c ≡ d → e ≡ f → g ≡ h → codes "meter" ∷ a ∷ c ∷ e ∷ g ∷ [] ≡ codes "meter" ∷ b ∷ d ∷ f ∷ h ∷ []
meter_same a b c d e f g h p q r s = rw (p, q, r, s) refl

a_meter : (numbers : List Word) (read : Task) → meter numbers ≡ Some read → Spells (codes "meter" ∷ numbers) read
unfolding coin_of
a_meter [] read e = absurd cc
a_meter (a ∷ []) read e = absurd cc
a_meter (a ∷ b ∷ []) read e = absurd cc
a_meter (a ∷ b ∷ c ∷ []) read e = absurd cc
a_meter (a ∷ b ∷ c ∷ d ∷ x ∷ more) read e = absurd cc
a_meter (stake ∷ line ∷ least ∷ greatest ∷ []) read e =
    let coin = bound (number_within 1 5 stake) _ read e in
    let name = bound (if is_name line then Some line else None) _ read coin.then in
    let hi = bound (number_within 0 500000 greatest) _ read name.then in
    let lo = bound (number_within 0 hi.value least) _ read hi.then in
    let k = digits 1 5 stake coin.value (omega arith) coin.first in
    let n = named line name.value name.first in
    let h = digits 0 500000 greatest hi.value (omega arith) hi.first in
    let l = digits 0 hi.value least lo.value (omega (arith, h.0.1)) lo.first in
    let same : Meter coin.value name.value lo.value hi.value ≡ read = (let e : Some (Meter coin.value name.value lo.value hi.value) ≡ Some read = lo.then in cc) in
    subst (λ (t : Task). Spells (codes "meter" ∷ stake ∷ line ∷ least ∷ greatest ∷ []) t) same
    (meter_same _ _ _ _ _ _ _ _ (sym k.1) n.1 (sym l.1) (sym h.1), record { some = k.0.0; most = k.0.1; name = ap is_name (sym n.1) ∙ n.0; order = l.0.1; most_payment = h.0.1 })

a_multi : (numbers : List Word) (read : Task) → multi numbers ≡ Some read → Spells (codes "multi" ∷ numbers) read
unfolding coin_of
a_multi [] read e = absurd cc
a_multi (first ∷ []) read e = absurd cc
a_multi (first ∷ second ∷ third ∷ more) read e = absurd cc
a_multi (first ∷ second ∷ []) read e =
    let coin = bound (number_within 1 5 first) _ read e in
    let hands = bound (number_within 1 100 second) _ read coin.then in
    let f = digits 1 5 first coin.value (omega arith) coin.first in
    let n = digits 1 100 second hands.value (omega arith) hands.first in
    let same : Multi coin.value hands.value ≡ read = (let e : Some (Multi coin.value hands.value) ≡ Some read = hands.then in cc) in
    subst (λ (t : Task). Spells (codes "multi" ∷ first ∷ second ∷ []) t) same
    (ap (λ (w : Word). codes "multi" ∷ w ∷ second ∷ []) (sym f.1) ∙ ap (λ (w : Word). codes "multi" ∷ decimal coin.value ∷ w ∷ []) (sym n.1), record { some_coin = f.0.0; most_coin = f.0.1; some = n.0.0; most = n.0.1 })

-- the same words of a made log
play_same : (a b c d e f : Word) → a ≡ b → c ≡ d → e ≡ f → codes "play" ∷ a ∷ c ∷ e ∷ [] ≡ codes "play" ∷ b ∷ d ∷ f ∷ []
play_same a b c d e f p q r = rw (p, q, r) refl

a_play : (numbers : List Word) (read : Task) → play numbers ≡ Some read → Spells (codes "play" ∷ numbers) read
unfolding coin_of
a_play [] read e = absurd cc
a_play (first ∷ []) read e = absurd cc
a_play (first ∷ second ∷ []) read e = absurd cc
a_play (first ∷ second ∷ third ∷ fourth ∷ more) read e = absurd cc
a_play (first ∷ second ∷ third ∷ []) read e =
    let coin = bound (number_within 1 5 first) _ read e in
    let seed = bound (number_of second) _ read coin.then in
    let games = bound (number_within 1 100000 third) _ read seed.then in
    let f = digits 1 5 first coin.value (omega arith) coin.first in
    let s = number_exact.takes second seed.value seed.first in
    let n = digits 1 100000 third games.value (omega arith) games.first in
    let same : Play coin.value seed.value games.value ≡ read = (let e : Some (Play coin.value seed.value games.value) ≡ Some read = games.then in cc) in
    subst (λ (t : Task). Spells (codes "play" ∷ first ∷ second ∷ third ∷ []) t) same
    (play_same _ _ _ _ _ _ (sym f.1) (sym s.1) (sym n.1), record { some_coin = f.0.0; most_coin = f.0.1; most_seed = s.0; some = n.0.0; most = n.0.1 })

a_compile : (numbers : List Word) (read : Task) → compile numbers ≡ Some read → Spells (codes "compile" ∷ numbers) read
unfolding coin_of
a_compile [] read e = absurd cc
a_compile (first ∷ []) read e = absurd cc
a_compile (first ∷ second ∷ third ∷ more) read e = absurd cc
a_compile (first ∷ second ∷ []) read e =
    let coin = bound (number_within 1 5 first) _ read e in
    let millionths = bound (number_within 0 1000000 second) _ read coin.then in
    let f = digits 1 5 first coin.value (omega arith) coin.first in
    let n = digits 0 1000000 second millionths.value (omega arith) millionths.first in
    let same : Compile coin.value millionths.value ≡ read = (let e : Some (Compile coin.value millionths.value) ≡ Some read = millionths.then in cc) in
    subst (λ (t : Task). Spells (codes "compile" ∷ first ∷ second ∷ []) t) same
    (ap (λ (w : Word). codes "compile" ∷ w ∷ second ∷ []) (sym f.1) ∙ ap (λ (w : Word). codes "compile" ∷ decimal coin.value ∷ w ∷ []) (sym n.1), record { some_coin = f.0.0; most_coin = f.0.1; most = n.0.1 })

-- a word that is this key, and else the choice behind it
keyed : (key word : Word) (numbers : List Word) (here other : Option Task) (read : Task) → (if bytes_eq word key then here else other) ≡ Some read
    → (here ≡ Some read → Spells (key ∷ numbers) read) → (other ≡ Some read → Spells (word ∷ numbers) read) → Spells (word ∷ numbers) read
keyed key word numbers here other read e is there =
    chosen (λ (t : Task). Spells (word ∷ numbers) t) (bytes_eq word key) here other read e
    (λ same said. subst (λ (w : Word). Spells (w ∷ numbers) read) (sym ((bytes_eq-Decides word key).0 same)) (is said))
    there

-- a line for each task
task_spelled : (word : Word) (numbers : List Word) (read : Task) → task_of word numbers ≡ Some read → Spells (word ∷ numbers) read
unfolding task_of
task_spelled word numbers read e =
    keyed (codes "deal") word numbers (bet Deal numbers) _ read e (a_bet (codes "deal") Deal (λ coin. refl) (λ coin is. is) numbers read) (λ e.
    keyed (codes "holds") word numbers (bet Holds numbers) _ read e (a_bet (codes "holds") Holds (λ coin. refl) (λ coin is. is) numbers read) (λ e.
    keyed (codes "certify") word numbers (bet Certify numbers) _ read e (a_bet (codes "certify") Certify (λ coin. refl) (λ coin is. is) numbers read) (λ e.
    keyed (codes "audit") word numbers (bet Audit numbers) _ read e (a_bet (codes "audit") Audit (λ coin. refl) (λ coin is. is) numbers read) (λ e.
    keyed (codes "cross") word numbers (bet Cross numbers) _ read e (a_bet (codes "cross") Cross (λ coin. refl) (λ coin is. is) numbers read) (λ e.
    keyed (codes "check") word numbers (check numbers) _ read e (a_check numbers read) (λ e.
    keyed (codes "meter") word numbers (meter numbers) _ read e (a_meter numbers read) (λ e.
    keyed (codes "multi") word numbers (multi numbers) _ read e (a_multi numbers read) (λ e.
    keyed (codes "hits") word numbers (bet Hits numbers) _ read e (a_bet (codes "hits") Hits (λ coin. refl) (λ coin is. is) numbers read) (λ e.
    keyed (codes "play") word numbers (play numbers) _ read e (a_play numbers read) (λ e.
    keyed (codes "compile") word numbers (compile numbers) None read e (a_compile numbers read) (λ none. absurd cc)))))))))))

task_read : (task : Task) → InRange task → command_of (task_words task) ≡ Some (Over task)
unfolding command_of task_of coin_of
task_read (Deal coin) is = ap (λ o. option_map Over (option_map Deal o)) ((number_within_exact 1 5 (omega arith)).again coin is)
task_read (Holds coin) is = ap (λ o. option_map Over (option_map Holds o)) ((number_within_exact 1 5 (omega arith)).again coin is)
task_read (Certify coin) is = ap (λ o. option_map Over (option_map Certify o)) ((number_within_exact 1 5 (omega arith)).again coin is)
task_read (Audit coin) is = ap (λ o. option_map Over (option_map Audit o)) ((number_within_exact 1 5 (omega arith)).again coin is)
task_read (Cross coin) is = ap (λ o. option_map Over (option_map Cross o)) ((number_within_exact 1 5 (omega arith)).again coin is)
task_read (Hits coin) is = ap (λ o. option_map Over (option_map Hits o)) ((number_within_exact 1 5 (omega arith)).again coin is)
task_read (Check from count) is =
    let f = (number_within_exact 1 200000 (omega arith)).again from (is.some, is.most_from) in
    let n = (number_within_exact 0 200000 (omega arith)).again count (omega arith, is.most_count) in
    ap (λ o. option_map Over (o >>= λ a. number_within 0 200000 (decimal count) >>= λ b. Some (Check a b))) f
    ∙ ap (λ o. option_map Over (o >>= λ b. Some (Check from b))) n
task_read Replay is = refl
task_read Sessions is = refl
task_read (Meter coin line lo hi) is =
    let k = (number_within_exact 1 5 (omega arith)).again coin (is.some, is.most) in
    let h = (number_within_exact 0 500000 (omega arith)).again hi (omega arith, is.most_payment) in
    let l = (number_within_exact 0 hi (omega (arith, is.most_payment))).again lo (omega arith, is.order) in
    let n : (if is_name line then Some line else None) ≡ Some line = rw is.name refl in
    ap (λ o. option_map Over (o >>= λ a. (if is_name line then Some line else None) >>= λ b. number_within 0 500000 (decimal hi) >>= λ c. number_within 0 c (decimal lo) >>= λ d. Some (Meter a b d c))) k
    ∙ ap (λ o. option_map Over (o >>= λ b. number_within 0 500000 (decimal hi) >>= λ c. number_within 0 c (decimal lo) >>= λ d. Some (Meter coin b d c))) n
    ∙ ap (λ o. option_map Over (o >>= λ c. number_within 0 c (decimal lo) >>= λ d. Some (Meter coin line d c))) h
    ∙ ap (λ o. option_map Over (o >>= λ d. Some (Meter coin line d hi))) l
task_read (Multi coin hands) is =
    let f = (number_within_exact 1 5 (omega arith)).again coin (is.some_coin, is.most_coin) in
    let n = (number_within_exact 1 100 (omega arith)).again hands (is.some, is.most) in
    ap (λ o. option_map Over (o >>= λ a. number_within 1 100 (decimal hands) >>= λ b. Some (Multi a b))) f
    ∙ ap (λ o. option_map Over (o >>= λ b. Some (Multi coin b))) n
task_read (Play coin seed games) is =
    let f = (number_within_exact 1 5 (omega arith)).again coin (is.some_coin, is.most_coin) in
    let s = number_exact.again seed is.most_seed in
    let n = (number_within_exact 1 100000 (omega arith)).again games (is.some, is.most) in
    ap (λ o. option_map Over (o >>= λ a. number_of (decimal seed) >>= λ b. number_within 1 100000 (decimal games) >>= λ c. Some (Play a b c))) f
    ∙ ap (λ o. option_map Over (o >>= λ b. number_within 1 100000 (decimal games) >>= λ c. Some (Play coin b c))) s
    ∙ ap (λ o. option_map Over (o >>= λ c. Some (Play coin seed c))) n
task_read (Compile coin millionths) is =
    let f = (number_within_exact 1 5 (omega arith)).again coin (is.some_coin, is.most_coin) in
    let n = (number_within_exact 0 1000000 (omega arith)).again millionths (omega arith, is.most) in
    ap (λ o. option_map Over (o >>= λ a. number_within 0 1000000 (decimal millionths) >>= λ b. Some (Compile a b))) f
    ∙ ap (λ o. option_map Over (o >>= λ b. Some (Compile coin b))) n

-- the words of a command that were read
abbrev Says : List Word → Command → Type 0
Says words command = (words ≡ command_words command) × AreInRange command

over_spelled : (words : List Word) (read : Option Task) (command : Command) → option_map Over read ≡ Some command → ((task : Task) → read ≡ Some task → Spells words task) → Says words command
over_spelled words None command e is = absurd cc
over_spelled words (Some task) command e is =
    let same : Over task ≡ command = cc in
    subst (λ (c : Command). Says words c) same (is task refl)

-- a word that is this key alone, and else the choice behind it
keyed_alone : (key word : Word) (here command : Command) (other : Option Command) → (if bytes_eq word key then Some here else other) ≡ Some command
    → Says (key ∷ []) here → (other ≡ Some command → Says (word ∷ []) command) → Says (word ∷ []) command
keyed_alone key word here command other e is there =
    chosen (λ (c : Command). Says (word ∷ []) c) (bytes_eq word key) (Some here) other command e
    (λ same said. let found : here ≡ command = cc in subst (λ (c : Command). Says (word ∷ []) c) found (subst (λ (w : Word). Says (w ∷ []) here) (sym ((bytes_eq-Decides word key).0 same)) is))
    there

-- a line for each command of one word
alone_spelled : (word : Word) (command : Command) → alone word ≡ Some command → Says (word ∷ []) command
alone_spelled word command e =
    keyed_alone (codes "tables") word Tables command _ e (refl, tt) (λ e.
    keyed_alone (codes "replay") word (Over Replay) command _ e (refl, tt) (λ e.
    keyed_alone (codes "sessions") word (Over Sessions) command None e (refl, tt) (λ none. absurd cc)))

read_spelled : (words : List Word) (command : Command) → command_of words ≡ Some command → Says words command
unfolding command_of
read_spelled [] command e = absurd cc
read_spelled (word ∷ []) command e = alone_spelled word command e
read_spelled (word ∷ number ∷ more) command e = over_spelled (word ∷ number ∷ more) (task_of word (number ∷ more)) command e (task_spelled word (number ∷ more))

tables_read : command_of (codes "tables" ∷ []) ≡ Some Tables
unfolding command_of
tables_read = refl

command_read : (command : Command) → AreInRange command → command_of (command_words command) ≡ Some command
command_read Tables is = tables_read
command_read (Over task) is = task_read task is

pub commands_spelled : CommandsAreSpelled
commands_spelled words command = (read_spelled words command, λ (same, is). ap command_of same ∙ command_read command is)

-- the numbers of a task are in range
pub in_range : (words : List Word) (task : Task) → command_of words ≡ Some (Over task) → InRange task
in_range words task is = (read_spelled words (Over task) is).1
