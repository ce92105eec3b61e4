mod Games
