pub mod Event_lines
pub mod Few_events
pub mod Games_grammar
pub mod Log_laws
pub mod Logs_grammar
pub mod Next_games
