-- What the text of `compile` tells, and that its list is audited.
use Rattle.std.proofs.Common.{◌≡◌, ◌≢◌, ℕ, ◌*◌, ◌^◌, ◌<◌, ◌≤◌, List, [], ◌∷◌, ◌++◌, map, length, refl, sym, ap, subst, ◌∙◌, arith, append_assoc, append-nil, length-append}
use Rattle.std.specs.Prelude.{IsTrue, Ok, codes}
use Rattle.std.specs.Fmt.{decimal}
use Rattle.std.specs.List.{AllByRecursion, range_with_len}
use Rattle.std.proofs.lemmas.Bool.{le-leb}
use Rattle.std.proofs.lemmas.Grind.{flat_map-append}
use Rattle.std.proofs.lemmas.List.Concat.{flat_map-cons}
use Rattle.std.proofs.lemmas.List.{length-map}
use Rattle.std.proofs.lemmas.List.FromFn.{length-range_with_len}
use Rattle.std.proofs.lemmas.List.Sums.{count_by-le-length, length-filter}
use Rattle.vp_text.specs.Lines.{Word, feed_of}
use Rattle.vp_text.specs.Sections.{Text, text_of}
use Rattle.vp_text.specs.Written.{IsPlainLine, IsPlainWord, fraction, is_plain, line_of, spaced, written}
use Rattle.vp_text.proofs.Comments.{comment_read}
use Rattle.vp_text.proofs.PlainWords.{plain_key, plain_number}
use Rattle.vp_text.proofs.Room.{digits_of_64, room, room-cons, room_lines, two_words}
use Rattle.vp_text.proofs.Writing.{written_read}
use Rattle.vp_pay.specs.Spelling.{table_text}
use Rattle.vp_pay.specs.declared.table.PayTable.{PayTable}
use Rattle.vp_pay.proofs.Plain.{plain_table}
use Rattle.vp_draws.specs.Draws.{return_denominator, sum_of_best}
use Rattle.vp_draws.proofs.Bounds.{denominator_fits, sum_of_best_fits}
use Rattle.vp_rule.specs.Lists.{RuleList, RulePool}
use Rattle.vp_rule.specs.Spelling.{list_text}
use Rattle.vp_rule.specs.Valid.{IsList}
use Rattle.vp_rule.proofs.Inputs.{lists_read, pools_read}
use Rattle.vp_rule.proofs.PlainLists.{plain_list}
use Rattle.vp_compile.specs.Excepted.{ArePlaces, excepted_places, is_needed, loss_given}
use Rattle.vp_compile.specs.Orders.{exchange}
use Rattle.vp_compile.specs.Rows.{row_at}
use Rattle.vp_compile.proofs.Excepted.{best_given}
use Rattle.vp_compile.proofs.OrderLaws.{order_kept_at}
use Rattle.vp_suit.proofs.FewClasses.{few_classes}
use Rattle.vp_pay.proofs.ShortTables.{short_table}
use Rattle.vp_audit.specs.Audits.{audited, loss}
use Rattle.vp_audit.specs.Compiled.{best_exception, ordered_list}
use Rattle.vp_audit.proofs.CompiledLists.{compiled_is}
use Rattle.vp_audit.proofs.MaskedLists.{best_lose_least}
use Rattle.vp_audit.proofs.OrderLosses.{left_is, order_is}
use Rattle.vp_answer.specs.Jobs.{read_as}
use Rattle.vp_pay.specs.Inputs.{has_bet}
use Rattle.vp_pay.proofs.FittingBets.{bet_fits}
use Rattle.vp_suit.proofs.TurnedDraws.{dealt_is}
use Rattle.vp_draws.proofs.Values.{value_mean}
use Rattle.vp_audit.specs.Audit.{audit_input}
use Rattle.vp_audit.specs.Compile.{CompileInputsAreRead, IsPooled, Pooled, compile_input, compile_lines, excepted, first_places, last_places, limit, matrix, printed_list, said_lines}
use Rattle.vp_audit.specs.CompileTells.{CompiledListsAreAudited, CompiledListsLoseLittle, FewerAreTooFew, IsAudited, IsWithin, NoExchangeHelps}
use Rattle.vp_audit.proofs.CompiledPools.{fewest, last_whole, printed_loss, row_number, some_places}
use Rattle.vp_audit.proofs.ShortLists.{short_list}

-- ---- what `compile` takes

pub inputs_read : CompileInputsAreRead
inputs_read coin = pools_read (has_bet coin)

pooled : (coin millionths : ℕ) (bytes : List ℕ) (table : PayTable) (pool : RulePool) → 1 ≤ coin → millionths ≤ 1000000 → compile_input coin bytes ≡ Ok (table, pool)
    → IsPooled (record { table = table; coin = coin; millionths = millionths; pool = pool })
pooled coin millionths bytes table pool some most says =
    let found = ((pools_read (has_bet coin)).spelled bytes (table, pool)).0 says in
    record { bet = record { rules = found.0.0; some = some; within = bet_fits coin table.coins found.1 }; most = most; pool = found.0.1 }

-- ---- the list that is printed loses little

module _ (p : Pooled) (is : IsPooled p) where
  -- a loss within the limit is within the target, and one above it is not
  within_limit : (lost : ℕ) → lost ≤ limit p → IsWithin p lost
  within_limit lost low = let all : ℕ = p.millionths * return_denominator p.table.deck p.coin in omega arith

  above_limit : (lost : ℕ) → limit p < lost → ¬ IsWithin p lost
  above_limit lost high = λ low. let all : ℕ = p.millionths * return_denominator p.table.deck p.coin in absurd (omega arith)

  within : IsWithin p (loss p.table p.coin (printed_list p))
  within = within_limit _ (omega (arith, (fewest p is).enough, printed_loss p is))

  order_best : NoExchangeHelps p (last_places p)
  order_best =
      let last = last_whole p is in
      record {
        whole = last.0;
        none = λ place inside.
            let next = order_kept_at (length p.pool.rules) (last_places p) (exchange (last_places p) place) place refl last.0 inside in
            omega (arith, last.1 place inside, order_is p.table p.coin is.bet p.pool is.pool (last_places p) last.0, order_is p.table p.coin is.bet p.pool is.pool (exchange (last_places p) place) next);
      }

  too_few : FewerAreTooFew p
  too_few places mask are low few =
      let given : limit p < loss_given (matrix p).rows (last_places p) places (λ place. (row_at (matrix p).rows place).best) = (fewest p is).fewest places (λ place. (row_at (matrix p).rows place).best) (subst (λ n. ArePlaces n places) (sym (row_number p is)) are) few in
      let left = left_is p.table p.coin is.bet p.pool is.pool (last_places p) (last_whole p is).0 places are in
      let masked = best_lose_least p.table p.coin p.pool (last_places p) places mask is.bet.rules.known_deck.0 are.below low in
      above_limit _ (omega (arith, given, best_given (matrix p).rows (last_places p) places, left, masked))

pub lists_lose_little : CompiledListsLoseLittle
lists_lose_little coin millionths bytes table pool some most says =
    let p : Pooled = record { table = table; coin = coin; millionths = millionths; pool = pool } in
    let is = pooled coin millionths bytes table pool some most says in
    record {
      status = refl;
      text = refl;
      mean = λ cards deal other low. value_mean table coin cards other is.bet.rules (dealt_is table.deck cards deal);
      within = within p is;
      order = order_best p is;
      fewest = too_few p is;
    }

-- ---- comments say nothing

no_feed : (word : List ℕ) → AllByRecursion (λ byte. IsTrue (is_plain byte)) word → AllByRecursion (λ byte. byte ≢ 10) word
no_feed [] all = tt
no_feed (byte ∷ word) all = ((λ same. let plain : IsTrue (is_plain 10) = subst (λ b. IsTrue (is_plain b)) same all.0 in absurd cc), no_feed word all.1)

both_no_feed : (front back : List ℕ) → AllByRecursion (λ byte. byte ≢ 10) front → AllByRecursion (λ byte. byte ≢ 10) back → AllByRecursion (λ byte. byte ≢ 10) (front ++ back)
both_no_feed [] back f b = b
both_no_feed (byte ∷ front) back f b = (f.0, both_no_feed front back f.1 b)

space_no_feed : (byte : ℕ) → byte ≡ 32 → byte ≢ 10
space_no_feed byte is = λ same. absurd (omega (arith, is, same))

spaced_no_feed : (words : List Word) → AllByRecursion IsPlainWord words → AllByRecursion (λ byte. byte ≢ 10) (spaced words)
spaced_no_feed [] all = tt
spaced_no_feed (word ∷ []) all = no_feed word all.0.1
spaced_no_feed (word ∷ next ∷ more) all = both_no_feed word (32 ∷ spaced (next ∷ more)) (no_feed word all.0.1) (space_no_feed 32 refl, spaced_no_feed (next ∷ more) all.1)

-- lines behind a `#`
abbrev commented : Text → Text
commented lines = map (λ words. codes "#" ∷ words) lines

comments_read : (lines : Text) (more : List ℕ) → AllByRecursion IsPlainLine lines → text_of (feed_of (written (commented lines) ++ more)).lines ≡ text_of (feed_of more).lines
comments_read [] more all = refl
comments_read ([] ∷ lines) more all = absurd (omega (arith, all.0.0))
comments_read ((word ∷ words) ∷ lines) more all =
    let rest = written (commented lines) in
    let line : Word = spaced (word ∷ words) in
    let regroup : written (commented ((word ∷ words) ∷ lines)) ++ more ≡ 35 ∷ (32 ∷ line) ++ 10 ∷ (rest ++ more) =
    ap (λ (bytes : List ℕ). bytes ++ more) (flat_map-cons line_of (codes "#" ∷ word ∷ words) (commented lines)) ∙ append_assoc (line_of (codes "#" ∷ word ∷ words)) rest more ∙ append_assoc (35 ∷ 32 ∷ line) (10 ∷ []) (rest ++ more) in
    ap (λ (bytes : List ℕ). text_of (feed_of bytes).lines) regroup
    ∙ comment_read (32 ∷ line) (rest ++ more) (space_no_feed 32 refl, spaced_no_feed (word ∷ words) all.0.1)
    ∙ comments_read lines more all.1

-- ---- the list that is printed is audited

small_loss : (table : PayTable) (coin : ℕ) (list : RuleList) → loss table coin list ≤ sum_of_best table coin
unfolding loss
small_loss table coin list = omega arith

-- a number over another, behind a word
abbrev fraction_words : Word → ℕ → ℕ → List Word
fraction_words key over under = key ∷ fraction over under

plain_fraction : (key : Word) (over under : ℕ) → IsPlainWord key → over < 2 ^ 64 → under < 2 ^ 64 → IsPlainLine (fraction_words key over under)
plain_fraction key over under plain low small = (omega arith, (plain, (plain_number over low, (plain_key (codes "/") (omega arith) refl, (plain_number under small, tt)))))

comment_room : (key : Word) (over under : ℕ) → length key ≤ 8 → over < 2 ^ 64 → under < 2 ^ 64 → room (codes "#" ∷ fraction_words key over under) < 100
comment_room key over under short low small =
    omega (
      arith,
      short,
      room-cons (codes "#") (fraction_words key over under),
      room-cons key (fraction over under),
      room-cons (decimal over) (codes "/" ∷ decimal under ∷ []),
      two_words (codes "/") (decimal under),
      digits_of_64 over low,
      digits_of_64 under small,
    )

module _ (p : Pooled) (is : IsPooled p) where
  listed_is : IsList p.table (printed_list p)
  unfolding printed_list
  listed_is = compiled_is p.table p.coin p.pool is.pool (last_places p) (excepted p) (last_whole p is).0 (some_places p is)

  abbrev under : ℕ
  under = return_denominator p.table.deck p.coin

  under_fits : under < 2 ^ 64
  unfolding return_denominator
  under_fits = denominator_fits p.table.deck p.coin is.bet.rules.known_deck (omega (arith, is.bet.within, is.bet.rules.most_coins))

  -- the numbers that are said, without `#`
  abbrev number_lines : Text
  number_lines =
      fraction_words (codes "optimum") (sum_of_best p.table p.coin) under ∷
      fraction_words (codes "start") (loss p.table p.coin (ordered_list p.pool (first_places p))) under ∷
      fraction_words (codes "settled") (loss p.table p.coin (ordered_list p.pool (last_places p))) under ∷
      fraction_words (codes "loss") (loss p.table p.coin (printed_list p)) under ∷ []

  said_is : said_lines p ≡ commented number_lines
  unfolding said_lines
  said_is = refl

  best_low : sum_of_best p.table p.coin < 2 ^ 64
  best_low = sum_of_best_fits p.table p.coin is.bet.rules

  loss_low : (list : RuleList) → loss p.table p.coin list < 2 ^ 64
  loss_low list = omega (arith, best_low, small_loss p.table p.coin list)

  numbers_plain : AllByRecursion IsPlainLine number_lines
  numbers_plain = (
    plain_fraction (codes "optimum") (sum_of_best p.table p.coin) under (plain_key (codes "optimum") (omega arith) refl) best_low under_fits,
    (
      plain_fraction (codes "start") (loss p.table p.coin (ordered_list p.pool (first_places p))) under (plain_key (codes "start") (omega arith) refl) (loss_low _) under_fits,
      (
        plain_fraction (codes "settled") (loss p.table p.coin (ordered_list p.pool (last_places p))) under (plain_key (codes "settled") (omega arith) refl) (loss_low _) under_fits,
        (plain_fraction (codes "loss") (loss p.table p.coin (printed_list p)) under (plain_key (codes "loss") (omega arith) refl) (loss_low _) under_fits, tt),
      ),
    ),
  )

  said_read : (more : List ℕ) → text_of (feed_of (written (said_lines p) ++ more)).lines ≡ text_of (feed_of more).lines
  said_read more = ap (λ (lines : Text). text_of (feed_of (written lines ++ more)).lines) said_is ∙ comments_read number_lines more numbers_plain

  comments_short : AllByRecursion (λ words. room words < 100) (commented number_lines)
  comments_short = (
    comment_room (codes "optimum") (sum_of_best p.table p.coin) under (omega arith) best_low under_fits,
    (
      comment_room (codes "start") (loss p.table p.coin (ordered_list p.pool (first_places p))) under (omega arith) (loss_low _) under_fits,
      (
        comment_room (codes "settled") (loss p.table p.coin (ordered_list p.pool (last_places p))) under (omega arith) (loss_low _) under_fits,
        (comment_room (codes "loss") (loss p.table p.coin (printed_list p)) under (omega arith) (loss_low _) under_fits, tt),
      ),
    ),
  )

  said_short : length (written (said_lines p)) ≤ 400
  said_short = subst (λ (lines : Text). length (written lines) ≤ 400) (sym said_is) (let all : length (written (commented number_lines)) ≤ 100 * 4 = room_lines 100 (commented number_lines) comments_short in omega (arith, all))

  -- the pay table, as it is written, with what `compile` prints behind it
  abbrev file : List ℕ
  file = written (table_text p.table) ++ written (compile_lines p)

  file_spells : text_of (feed_of file).lines ≡ table_text p.table ++ list_text p.table (printed_list p)
  file_spells =
      let list : Text = list_text p.table (printed_list p) in
      written_read (table_text p.table) (written (compile_lines p)) (plain_table p.table is.bet.rules)
      ∙ ap (λ (text : Text). table_text p.table ++ text) (
      ap (λ (bytes : List ℕ). text_of (feed_of bytes).lines) (flat_map-append line_of (said_lines p) list ∙ ap (λ (bytes : List ℕ). written (said_lines p) ++ bytes) (sym (append-nil (written list))))
      ∙ said_read (written list ++ [])
      ∙ written_read list [] (plain_list p.table (printed_list p) is.bet.rules listed_is)
      ∙ append-nil list
      )

  file_says : audit_input p.coin file ≡ Ok (p.table, printed_list p)
  file_says = ((lists_read (has_bet p.coin)).spelled file (p.table, printed_list p)).1 ((is.bet.rules, listed_is), le-leb p.coin p.table.coins is.bet.within, file_spells)

  many_exceptions : length (printed_list p).exceptions ≡ length (excepted p)
  unfolding printed_list
  many_exceptions = length-map (excepted p) (best_exception p.table p.coin)

  few_places : length (excepted p) ≤ length (matrix p).rows
  unfolding excepted excepted_places
  few_places =
      let n : ℕ = length (matrix p).rows in
      omega (arith, length-filter (is_needed (matrix p).rows (last_places p) (limit p)) (range_with_len 0 n), count_by-le-length (is_needed (matrix p).rows (last_places p) (limit p)) (range_with_len 0 n), length-range_with_len 0 n)

  file_short : length file ≤ 67108864
  file_short = omega (
    arith,
    length-append (written (table_text p.table)) (written (compile_lines p)),
    short_table p.table is.bet.rules,
    ap {B = ℕ} length (flat_map-append line_of (said_lines p) (list_text p.table (printed_list p))),
    length-append (written (said_lines p)) (written (list_text p.table (printed_list p))),
    said_short,
    short_list p.table (printed_list p) is.bet.rules listed_is,
    few_places,
    row_number p is,
    few_classes p.table.deck is.bet.rules.known_deck,
    many_exceptions,
  )

  is_audited : IsAudited p (written (compile_lines p))
  unfolding audited
  is_audited = record {
    short = file_short;
    says = file_says;
    job = ap (read_as (λ read. record { table = read.0; coin = p.coin; list = read.1 })) file_says;
    answered = refl;
    loss = refl;
  }

pub lists_audited : CompiledListsAreAudited
lists_audited coin millionths bytes table pool some most says =
    is_audited (record { table = table; coin = coin; millionths = millionths; pool = pool }) (pooled coin millionths bytes table pool some most says)
